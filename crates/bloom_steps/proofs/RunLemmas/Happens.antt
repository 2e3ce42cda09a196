-- What an event does to the world of a run: a party begins a call, makes a step, or does nothing.
use Rattle.std.proofs.Common.{[], ◌++◌, ◌<◌, ◌^◌, ◌∙◌, ◌∷◌, ◌≡◌, Bool, List, None, Option, Some, ap, arith, false, if◌then◌else◌, inl, inr, length, length-set, not, refl, slice_index_or, slice_set, sym, true, vec_len, ℕ}
use Rattle.std.specs.Vec.{with_item}
use Rattle.bloom_steps.proofs.Common.{append-nil, none-some, same_Some, slice_get-get_or, Machine, World, Call, End, Event, Begin, Go, Record, Began, Did, Step, Gives, AsksRight, StandsFurther, found_in, words_after_step, StandsAt, asks, end_of, next_step, plan_of, runs, word_index, Happens, IsWorld, IsWorldOf, RecordsGrow, slot_runs}
use Rattle.bloom_steps.proofs.RunLemmas.Worlds.{begin_keeps, go_keeps, runs-slot, slot_same, step_inside}

-- where a machine asks for a step its call goes on
asks-going : (m : Machine) (step : Step) → asks m ≡ Some step → not m.ended ≡ true
asks-going m step e = go m.ended e
  where
    go : (b : Bool) → (if b then None else Some (next_step (plan_of m.call) m)) ≡ Some step
        → not b ≡ true
    go true f = absurd (none-some _ f)
    go false f = refl

-- where a machine asks for no step its call has ended
asks-over : (m : Machine) → asks m ≡ None → not m.ended ≡ false
asks-over m e = go m.ended e
  where
    go : (b : Bool) → (if b then None else Some (next_step (plan_of m.call) m)) ≡ None
        → not b ≡ false
    go true f = refl
    go false f = absurd (none-some _ (sym f))

-- records grow by nothing
grows-none : (parties : ℕ) (e : Event) (before : List Record) → Gives parties before e []
    → RecordsGrow parties e before before
grows-none parties e before gives =
    record { added = []; same = sym (append-nil before); gives = gives }

-- an event wrote these words, this machine into a party's slot, and one more record
record Writes (old new : World) (p : ℕ) (words : List ℕ) (m : Machine) (r : Record) : Type 0
  where
    start : new.start.items ≡ old.start.items
    now : new.words.items ≡ words
    machines : new.machines.items ≡ slice_set old.machines.items p (Some m)
    records : new.records.items ≡ old.records.items ++ r ∷ []

-- a world, a party of it, and what was read at its slot
module _ (k : ℕ) (world : World) (is : IsWorldOf k world) (p : ℕ)
    (within : p < length world.machines.items) (slot : Option Machine)
    (read : slot ≡ slice_index_or world.machines.items p slot) where
  -- the party's slot is what was read
  at : slice_index_or world.machines.items p None ≡ slot
  at =
      same_Some _ _
      (sym (slice_get-get_or world.machines.items p None within)
      ∙ slice_get-get_or world.machines.items p slot within)
      ∙ sym read

  -- the party runs a call exactly if its machine does
  runs-so : runs p world.records.items ≡ slot_runs slot
  runs-so = runs-slot k _ _ _ _ is p within slot at

  -- what is written keeps the world, and adds what the event gives
  happens-written : (new : World) (event : Event) (words : List ℕ) (m : Machine) (r : Record)
      → Writes world new p words m r
      → IsWorld k world.start.items words (slice_set world.machines.items p (Some m))
      (world.records.items ++ r ∷ [])
      → Gives (length world.machines.items) world.records.items event (r ∷ [])
      → Happens k event world new
  happens-written new event words m r writes keeps gives = record {
    keeps = rw (writes.start, writes.now, writes.machines, writes.records) keeps;
    start = writes.start;
    parties = ap length writes.machines ∙ length-set world.machines.items p _;
    grows = record { added = r ∷ []; same = writes.records; gives = gives };
  }

  -- a party that runs a call begins none
  pub happens-busy : (call : Call) → slot_runs slot ≡ true → Happens k (Begin p call) world world
  happens-busy call running = record {
    keeps = is;
    start = refl;
    parties = refl;
    grows =
        grows-none (length world.machines.items) (Begin p call) world.records.items
        (inr (record { busy = λ _. runs-so ∙ running; same = refl }));
  }

  -- a party that runs no call begins one
  pub happens-begun : (call : Call) (m : Machine) (new : World) (count : ℕ)
      → slot_runs slot ≡ false → count ≡ vec_len world.words → StandsAt m count k call []
      → new.start.items ≡ world.start.items → new.words.items ≡ world.words.items
      → new.machines.items ≡ slice_set world.machines.items p (Some m)
      → new.records.items ≡ world.records.items ++ Began p call ∷ []
      → Happens k (Begin p call) world new
  happens-begun call m new count idle counted stands start words machines more =
      let all : count ≡ length world.words.items = omega (arith, counted) in
      happens-written new (Begin p call) world.words.items m (Began p call)
      (record { start = start; now = words; machines = machines; records = more })
      (begin_keeps k _ _ _ _ is p within call m count all (ap slot_runs at ∙ idle) stands)
      (inl (record { within = within; idle = runs-so ∙ idle; same = refl }))

  -- a party that has a machine
  module _ (m : Machine) (here : slot ≡ Some m) where
    -- the step asked for is on one of the words
    pub step-within : (step : Step) → AsksRight m (Some step)
        → word_index step < length world.words.items
    step-within step asks_right = step_inside k _ _ _ _ is p within m step (at ∙ here) asks_right

    -- a machine that asks for no step makes none, and is written back
    pub happens-idle : (given : ℕ) → asks m ≡ None
        → Happens k (Go p given) world
        (record world { machines = with_item world.machines p (Some m) })
    happens-idle given over = record {
      keeps = slot_same k _ _ _ _ is p within m (at ∙ here);
      start = refl;
      parties = length-set world.machines.items p _;
      grows =
          grows-none (length world.machines.items) (Go p given) world.records.items
          (inr (record {
            idle = runs-so ∙ ap slot_runs here ∙ asks-over m over;
            same = refl;
          }));
    }

    -- a machine that asks for a step makes it
    pub happens-step : (given word : ℕ) (step : Step) (n : Machine) (ended : End) (new : World)
        → asks m ≡ Some step → AsksRight m (Some step) → StandsFurther m word n → ended ≡ end_of n
        → record {
          found : word ≡ found_in world.words.items given step;
          words : new.words.items ≡ words_after_step world.words.items step;
          fits : word < 2 ^ 64;
        }
        → new.start.items ≡ world.start.items
        → new.machines.items ≡ slice_set world.machines.items p (Some n)
        → new.records.items ≡ world.records.items ++ Did p step word ended ∷ []
        → Happens k (Go p given) world new
    happens-step given word step n ended new asked right further is_end made start machines more =
        happens-written new (Go p given) (words_after_step world.words.items step) n
        (Did p step word (end_of n))
        (record {
          start = start;
          now = made.words;
          machines = machines;
          records = more ∙ ap (λ e. world.records.items ++ Did p step word e ∷ []) is_end;
        })
        (go_keeps k _ _ _ _ is p within given word step m n (at ∙ here) right asked made.found
        made.fits further)
        (inl (record {
          running = runs-so ∙ ap slot_runs here ∙ asks-going m step asked;
          step = step;
          found = word;
          ended = end_of n;
          same = refl;
          reads = λ i same. made.found ∙ ap (found_in world.words.items given) same;
        }))
