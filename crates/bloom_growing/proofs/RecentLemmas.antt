-- What a filter that rotates still contains of the hashes that came.
use Rattle.std.proofs.Common.{◌≡◌, ◌⊎◌, inl, inr, ◌+◌, ◌<◌, ◌≤◌, ℕ, Bool, true, false, ◌||◌, List, [], ◌∷◌, ◌++◌, length, nat_eq, refl, sym, ◌∙◌, ap, subst, length-append, arith}
use Rattle.bloom_growing.proofs.Common.{cases_lt, or_left, or_right, true≢false, Filter, Kind, placement_of, contains, Inserts}
use Rattle.std.proofs.lemmas.List.{append-nil, append_assoc}
use Rattle.std.specs.Cmp.{unsigned_Decides}
use Rattle.std.specs.Set.{distinct_count, is_member}
use Rattle.bloom_growing.specs.Rotating.{Rotating, either_contains, Fills, Turns, Receives, ReceivesAll}
use Rattle.bloom_growing.proofs.DifferentLemmas.{cut-last, cons-out, suffix, one-more, some-more, last-at}
use Rattle.bloom_growing.proofs.KindLemmas.{insert-found, insert-keeps}

-- how many different hashes there are
abbrev count : List ℕ → ℕ
count hashes = distinct_count nat_eq hashes

-- these hashes came, in order. The newer filter contains each behind which fewer different ones
-- came than it took, and one of both contains each behind which fewer came than each is for
record Holds {S : Type 0} (kind : Kind) (r : Rotating S) (came : List ℕ) : Type 0 where
  newer : (front behind : List ℕ) (hash : ℕ) → came ≡ front ++ hash ∷ behind
      → count behind < r.taken → contains (placement_of kind) r.newer hash ≡ true
  both : (front behind : List ℕ) (hash : ℕ) → came ≡ front ++ hash ∷ behind
      → count behind < r.setup.room → either_contains kind r hash ≡ true

-- before any hash came there is nothing to contain
holds-none : {S : Type 0} (kind : Kind) (r : Rotating S) → Holds kind r []
holds-none kind r = record {
  newer = λ front behind hash cut. absurd (none front behind hash cut);
  both = λ front behind hash cut. absurd (none front behind hash cut);
}
  where
    none : (front behind : List ℕ) (hash : ℕ) → [] ≡ front ++ hash ∷ behind → ⊥
    none front behind hash cut =
        let lengths : 0 ≡ length (front ++ hash ∷ behind) = ap length cut in
        omega (arith, lengths, length-append front (hash ∷ behind))

or-more : (a b c : Bool) → (a ≡ true → c ≡ true) → (a || b) ≡ true → (c || b) ≡ true
or-more true b c more is = or_left c b (more refl)
or-more false b c more is = or_right c b is

module _ {S : Type 0} (kind : Kind) (old : Rotating S) (hash : ℕ) (came : List ℕ)
    (holds : Holds kind old came) where
  -- what stands at a cut behind one more hash
  abbrev Cut : List ℕ → List ℕ → ℕ → Type 0
  Cut front behind other =
      (other ≡ hash) ⊎ ((rest : List ℕ) × (behind ≡ rest ++ hash ∷ [])
      × (came ≡ front ++ other ∷ rest))

  -- where the newer filter lacks the hash, of the hashes behind one of the last that it took there
  -- are fewer different ones than with this hash
  fewer : contains (placement_of kind) old.newer hash ≡ false → (front rest : List ℕ) (other : ℕ)
      → came ≡ front ++ other ∷ rest → count (rest ++ hash ∷ []) < old.taken + 1
      → count rest < old.taken
  fewer absent front rest other cut few = by (is_member nat_eq rest hash) refl
    where
      by : (b : Bool) → is_member nat_eq rest hash ≡ b → count rest < old.taken
      by false out = omega (arith, few, one-more nat_eq unsigned_Decides rest hash out)
      by true is =
          let at = last-at nat_eq unsigned_Decides rest hash is in
          let last : count at.1 < old.taken =
          omega (
            arith,
            few,
            some-more nat_eq unsigned_Decides rest hash,
            cons-out nat_eq unsigned_Decides hash at.1 at.3,
            suffix nat_eq unsigned_Decides at.0 (hash ∷ at.1),
            ap count at.2,
          ) in
          absurd (true≢false
          (sym (holds.newer (front ++ other ∷ at.0) at.1 hash
          (cut ∙ ap (λ l. front ++ other ∷ l) at.2
          ∙ sym (append_assoc front (other ∷ at.0) (hash ∷ at.1))) last)
          ∙ absent))

  -- a filter that took the hash has each of the last ones
  filled-has : (filled : Filter S) → Inserts (placement_of kind) old.newer hash filled false
      → contains (placement_of kind) old.newer hash ≡ false → (front behind : List ℕ) (other : ℕ)
      → came ++ hash ∷ [] ≡ front ++ other ∷ behind → count behind < old.taken + 1
      → contains (placement_of kind) filled other ≡ true
  filled-has filled inserts absent front behind other cut few =
      by (cut-last came front behind hash other cut)
    where
      by : Cut front behind other → contains (placement_of kind) filled other ≡ true
      by (inl same) =
          subst (λ h. contains (placement_of kind) filled h ≡ true) (sym same)
          (insert-found kind old.newer filled hash false inserts)
      by (inr is) =
          insert-keeps kind old.newer filled hash other false inserts
          (holds.newer front is.0 other is.2
          (fewer absent front is.0 other is.2
          (subst (λ l. count l < old.taken + 1) is.1 few)))

  -- the newer filter has the hash, and nothing changed
  held : contains (placement_of kind) old.newer hash ≡ true → Holds kind old (came ++ hash ∷ [])
  held has = record {
    newer = λ front behind other cut few.
        newer front behind other few (cut-last came front behind hash other cut);
    both = λ front behind other cut few.
        both front behind other few (cut-last came front behind hash other cut);
  }
    where
      newer : (front behind : List ℕ) (other : ℕ) → count behind < old.taken
          → Cut front behind other → contains (placement_of kind) old.newer other ≡ true
      newer front behind other few (inl same) =
          subst (λ h. contains (placement_of kind) old.newer h ≡ true) (sym same) has
      newer front behind other few (inr is) =
          holds.newer front is.0 other is.2
          (omega (arith, few, some-more nat_eq unsigned_Decides is.0 hash, ap count is.1))

      both : (front behind : List ℕ) (other : ℕ) → count behind < old.setup.room
          → Cut front behind other → either_contains kind old other ≡ true
      both front behind other few (inl same) =
          or_left (contains (placement_of kind) old.newer other) _
          (subst (λ h. contains (placement_of kind) old.newer h ≡ true) (sym same) has)
      both front behind other few (inr is) =
          holds.both front is.0 other is.2
          (omega (arith, few, some-more nat_eq unsigned_Decides is.0 hash, ap count is.1))

  -- the newer filter took the hash, and stays the newer one
  filled : (new : Rotating S) → contains (placement_of kind) old.newer hash ≡ false
      → Fills kind old hash new → new.setup ≡ old.setup → Holds kind new (came ++ hash ∷ [])
  filled new absent fills setup = record {
    newer = λ front behind other cut few.
        filled-has new.newer fills.newer absent front behind other cut
        (omega (arith, few, fills.taken));
    both = λ front behind other cut few.
        both front behind other few (cut-last came front behind hash other cut);
  }
    where
      both : (front behind : List ℕ) (other : ℕ) → count behind < new.setup.room
          → Cut front behind other → either_contains kind new other ≡ true
      both front behind other few (inl same) =
          or_left (contains (placement_of kind) new.newer other) _
          (subst (λ h. contains (placement_of kind) new.newer h ≡ true) (sym same)
          (insert-found kind old.newer new.newer hash false fills.newer))
      both front behind other few (inr is) =
          let at = placement_of kind in
          subst (λ f. (contains at new.newer other || contains at f other) ≡ true) (sym fills.older)
          (or-more (contains at old.newer other) (contains at old.older other)
          (contains at new.newer other)
          (insert-keeps kind old.newer new.newer hash other false fills.newer)
          (holds.both front is.0 other is.2
          (omega (
            arith,
            few,
            ap (λ p. p.room) setup,
            some-more nat_eq unsigned_Decides is.0 hash,
            ap count is.1,
          ))))

  -- the newer filter took the hash, and became the older one
  turned : (new : Rotating S) → contains (placement_of kind) old.newer hash ≡ false
      → Turns kind old hash new → new.setup ≡ old.setup → old.setup.room ≤ old.taken + 1
      → Holds kind new (came ++ hash ∷ [])
  turned new absent turns setup full = record {
    newer = λ front behind other cut few. absurd (omega (arith, few, turns.taken));
    both = λ front behind other cut few.
        or_right (contains (placement_of kind) new.newer other) _
        (filled-has new.older turns.older absent front behind other cut
        (omega (arith, few, ap (λ p. p.room) setup, full)));
  }

  -- one more hash came
  holds-more : (new : Rotating S) (reply : Bool) → Receives kind old hash new reply
      → Holds kind new (came ++ hash ∷ [])
  holds-more new reply did = by (contains (placement_of kind) old.newer hash) refl
    where
      room : (old.taken + 1 < old.setup.room) ⊎ (old.setup.room ≤ old.taken + 1)
          → contains (placement_of kind) old.newer hash ≡ false → Holds kind new (came ++ hash ∷ [])
      room (inl spare) absent = filled new absent (did.fills absent spare) did.setup
      room (inr full) absent = turned new absent (did.turns absent full) did.setup full

      by : (b : Bool) → contains (placement_of kind) old.newer hash ≡ b
          → Holds kind new (came ++ hash ∷ [])
      by true is =
          subst (λ r. Holds kind r (came ++ hash ∷ [])) (sym (did.held is)) (held is)
      by false absent = room (cases_lt (old.taken + 1) old.setup.room) absent

-- and then all of these
holds-all : {S : Type 0} (kind : Kind) (old new : Rotating S) (came more : List ℕ)
    → Holds kind old came
    → ReceivesAll kind old more new → Holds kind new (came ++ more)
holds-all kind old new came [] holds all =
    subst (Holds kind new) (sym (append-nil came)) (subst (λ r. Holds kind r came) (sym all) holds)
holds-all kind old new came (hash ∷ more) holds all =
    subst (Holds kind new) (append_assoc came (hash ∷ []) more)
    (holds-all kind all.0 new (came ++ hash ∷ []) more
    (holds-more kind old hash came holds all.0 all.1 all.2) all.3)

-- a hash that came is contained while fewer different ones came behind it than each filter is for
pub recent_found_law : (S : Type 0) (kind : Kind) (old new : Rotating S) (earlier later : List ℕ)
    (hash : ℕ) → ReceivesAll kind old (earlier ++ hash ∷ later) new
    → count later < new.setup.room → either_contains kind new hash ≡ true
recent_found_law S kind old new earlier later hash all few =
    (holds-all kind old new [] (earlier ++ hash ∷ later) (holds-none kind old) all).both
    earlier later hash
    refl few
