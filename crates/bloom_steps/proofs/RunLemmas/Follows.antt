-- Events, one after the other, and what they add.
use Rattle.bloom_steps.proofs.Common.{take-more, World, append-nil, slice_get-get_or, slice_index_or, Event, Record, FollowsFrom, Gives, next_event, no_event, RecordsGrow, IsWorldOf, Happens}
use Rattle.std.proofs.Common.{[], ◌++◌, ◌+◌, ◌<◌, ◌∷◌, ◌≡◌, ◌≤◌, List, append_assoc, arith, length, subst, sym, take, vec_capacity, vec_len, ℕ, ◌∙◌}

-- one event more
follows-more :
    (parties : ℕ) (before : List Record) (es : List Event) (added : List Record) (e : Event)
    (more : List Record)
    → FollowsFrom parties before es added → Gives parties (before ++ added) e more
    → FollowsFrom parties before (es ++ e ∷ []) (added ++ more)
follows-more parties before [] [] e more (no_event _) g =
    let gives = subst (λ l. Gives parties l e more) (append-nil before) g in
    subst (λ l. FollowsFrom parties before (e ∷ []) l) (append-nil more)
    (next_event before e [] more [] gives (no_event (before ++ more)))
follows-more parties before [] (a ∷ later) e more x g = elim x [ ]
follows-more parties before (first ∷ es) _ e more (next_event _ _ _ added later gives rest) g =
    let last = subst (λ l. Gives parties l e more) (sym (append_assoc before added later)) g in
    subst (λ l. FollowsFrom parties before (first ∷ (es ++ e ∷ [])) l)
    (sym (append_assoc added later more))
    (next_event before first (es ++ e ∷ []) added (later ++ more) gives
    (follows-more parties (before ++ added) es later e more rest last))

-- a run so far: its world is that of the events up to one, from given words, and there is room for
-- a record of each event that is left
pub record HasRun
    (k count : ℕ) (words : List ℕ) (schedule : List Event) (i : ℕ) (now : World) : Type 0 where
  pub parties : length now.machines.items ≡ count
  pub start : now.start.items ≡ words
  pub world : IsWorldOf k now
  pub follows : FollowsFrom count [] (take i schedule) now.records.items
  pub recorded : vec_len now.records ≤ i
  pub room : length schedule ≤ vec_capacity now.records

-- the run before the first event
pub run-first : (k parties : ℕ) (words : List ℕ) (schedule : List Event) (world : World)
    → IsWorldOf k world → length world.machines.items ≡ parties → world.start.items ≡ words
    → world.records.items ≡ [] → vec_len world.records ≡ 0
    → length schedule ≤ vec_capacity world.records → HasRun k parties words schedule 0 world
run-first k parties words schedule world is all start none empty room = record {
  parties = all;
  start = start;
  world = is;
  follows = subst (FollowsFrom parties [] []) (sym none) (no_event []);
  recorded = omega (arith, empty);
  room = room;
}

-- what one event does, with room for its record
abbrev pub HappensInRoom : ℕ → Event → World → World → Type 0
HappensInRoom k event old new = record {
  happens : Happens k event old new;
  capacity : vec_capacity new.records ≡ vec_capacity old.records;
  count : vec_len new.records ≤ vec_len old.records + 1;
}

-- the run after one event more
pub run-next : (k parties : ℕ) (words : List ℕ) (schedule : List Event) (i : ℕ) (d : Event)
    (old new : World)
    → i < length schedule → HasRun k parties words schedule i old
    → HappensInRoom k (slice_index_or schedule i d) old new
    → HasRun k parties words schedule (i + 1) new
run-next k parties words schedule i d old new within before did =
    let event = slice_index_or schedule i d in
    let records = new.records.items in
    let more =
    subst (λ n. RecordsGrow n event old.records.items records) before.parties did.happens.grows in
    let read = take-more schedule i event (slice_get-get_or schedule i d within) in
    record {
      parties = did.happens.parties ∙ before.parties;
      start = did.happens.start ∙ before.start;
      world = did.happens.keeps;
      follows = subst (λ es. FollowsFrom parties [] es records) (sym read)
          (subst (FollowsFrom parties [] (take i schedule ++ event ∷ [])) (sym more.same)
          (follows-more parties [] (take i schedule) old.records.items event more.added
          before.follows more.gives));
      recorded = omega (arith, before.recorded, did.count);
      room = omega (arith, before.room, did.capacity);
    }
