-- The rule that a filter that rotates keeps, and the rates of its two filters.
use Rattle.std.proofs.Common.{◌≡◌, ℕ, ◌+◌, ◌^◌, ◌<◌, ◌≤◌, Bool, true, false, [], ◌∷◌, nat_eq, if◌then◌else◌, refl, sym, ◌∙◌, ap, subst, arith, lit<}
use Rattle.std.proofs.lemmas.List.Elements.{All-replicate}
use Rattle.std.specs.Cmp.{unsigned_Decides}
use Rattle.bloom_growing.proofs.Common.{Bracket, content, AreWords, EqualWordsLaw, Filter, Clears, Setup, IsNumber, Took, rate_start, room_at, Part, BoundsAny, Kind, placement_of, Inserts}
use Rattle.bloom_parts.specs.Brackets.{low_of, high_of, Holds}
use Rattle.bloom_parts.specs.FalsePositives.{BoundsEither}
use Rattle.bloom_parts.proofs.PublishedLemmas.{content-zeros}
use Rattle.bloom_growing.specs.Rotating.{Rotating, older_taken, IsRotating}
use Rattle.bloom_growing.proofs.GrowingLemmas.{took-none, took-next}
use Rattle.bloom_growing.proofs.GrowingRateLemmas.{bounds-none, bounds-push}
use Rattle.bloom_growing.proofs.KindLemmas.{made-zeros, new-hasher, new-shape, same-filter}

-- a filter that was cleared is the one that was made, as words have 64 bits
cleared-made : {S : Type 0} (kind : Kind) (setup : Setup S) (count : ℕ) (old new : Filter S)
    → EqualWordsLaw → AreWords new.words → (took : Took kind setup [] count old) → Clears old new
    → new ≡ took.made
cleared-made kind setup count old new law fit took clears =
    let made = took.made in
    let is = took.is_made in
    let zeros = made-zeros kind (rate_start is.rate setup.hasher) (room_at setup.room 0) made
    is.is_made in
    let shape = new-shape kind made took.hashes old took.did in
    let fit' : AreWords made.words =
    subst AreWords (sym zeros.1) (All-replicate (λ w. w < 2 ^ 64) zeros.0 0 (lit< tt)) in
    same-filter made new law fit' fit (record {
      words = shape.words ∙ clears.shape.words;
      hashes = shape.hashes ∙ clears.shape.hashes;
    })
    (clears.hasher ∙ new-hasher kind made took.hashes old took.did)
    (λ p. clears.bits p ∙ sym (ap (λ w. content w p) zeros.1 ∙ content-zeros zeros.0 p))

-- so it took no hash
took-cleared : {S : Type 0} (kind : Kind) (setup : Setup S) (count : ℕ) (old new : Filter S)
    → EqualWordsLaw → AreWords new.words → Took kind setup [] count old → Clears old new
    → Took kind setup [] 0 new
took-cleared kind setup count old new law fit took clears =
    subst (Took kind setup [] 0) (sym (cleared-made kind setup count old new law fit took clears))
    (took-none kind setup [] took.made took.is_made)

-- after a turn the older filter took all that it is for
all-taken : (turns room : ℕ) → 1 ≤ turns → (if nat_eq turns 0 then 0 else room) ≡ room
all-taken turns room some = by (nat_eq turns 0) refl
  where
    by : (b : Bool) → nat_eq turns 0 ≡ b → (if nat_eq turns 0 then 0 else room) ≡ room
    by true is = absurd (omega (arith, some, (unsigned_Decides turns 0).0 is))
    by false is = ap (λ b. if b then 0 else room) is

-- the filters as they were made keep the rule
pub rotating-none : {S : Type 0} (kind : Kind) (r : Rotating S) → 1 ≤ r.setup.room
    → IsNumber kind r.setup 0 r.older → IsNumber kind r.setup 0 r.newer → r.taken ≡ 0
    → r.turns ≡ 0 → IsRotating kind r
rotating-none kind r some older newer taken turns = record {
  has_room = omega (arith, some, taken);
  older =
      subst (λ n. Took kind r.setup [] (if nat_eq n 0 then 0 else r.setup.room) r.older) (sym turns)
      (took-none kind r.setup [] r.older older);
  newer = subst (λ n. Took kind r.setup [] n r.newer) (sym taken)
      (took-none kind r.setup [] r.newer newer);
}

module _ {S : Type 0} (kind : Kind) (old : Rotating S) (is : IsRotating kind old) (hash : ℕ)
    (filled : Filter S) (did : Inserts (placement_of kind) old.newer hash filled false) where
  one-more : Took kind old.setup [] (old.taken + 1) filled
  one-more = took-next kind old.setup [] old.taken old.newer filled hash is.newer refl did

  -- the newer filter took one more hash
  pub rotating-filled : (taken : ℕ) → taken ≡ old.taken + 1 → old.taken + 1 < old.setup.room
      → IsRotating kind (record {
        setup = old.setup;
        older = old.older;
        newer = filled;
        taken = taken;
        turns = old.turns;
      })
  rotating-filled taken next spare = record {
    has_room = omega (arith, next, spare);
    older = is.older;
    newer = subst (λ n. Took kind old.setup [] n filled) (sym next) one-more;
  }

  -- it took the last one, and turned over
  pub rotating-turned : (cleared : Filter S) (turns : ℕ) → EqualWordsLaw
      → AreWords cleared.words → Clears old.older cleared → 1 ≤ turns
      → old.setup.room ≤ old.taken + 1 → IsRotating kind (record {
        setup = old.setup;
        older = filled;
        newer = cleared;
        taken = 0;
        turns = turns;
      })
  rotating-turned cleared turns law fit clears some full =
      let all : old.taken + 1 ≡ (if nat_eq turns 0 then 0 else old.setup.room) =
      omega (arith, is.has_room, full, all-taken turns old.setup.room some) in
      record {
        has_room = omega (arith, is.has_room);
        older = subst (λ n. Took kind old.setup [] n filled) all one-more;
        newer =
            took-cleared kind old.setup (older_taken old) old.older cleared law fit is.older clears;
      }

-- the rates of two filters, one after the other, from nothing on
pub bounds-two : (first second : Part) (none one other rate next : Bracket) → 0 < first.all
    → 0 < second.all → low_of none ≡ 0 → high_of none ≡ 0
    → Holds one first.found first.all → low_of one ≡ first.low → high_of one ≡ first.high
    → Holds other second.found second.all → low_of other ≡ second.low
    → high_of other ≡ second.high → BoundsEither none one rate → BoundsEither rate other next
    → BoundsAny (first ∷ second ∷ []) next
bounds-two first second none one other rate next some some' low high is low_is high_is is' low_is'
    high_is' either either' =
    bounds-push (first ∷ []) second rate other next some'
    (bounds-push [] first none one rate some (bounds-none none low high) is low_is high_is either)
    is' low_is' high_is' either'
