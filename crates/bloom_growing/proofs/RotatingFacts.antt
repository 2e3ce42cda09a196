-- Filters that rotate: of each definition cases that hold, and the nearest that don't.
use Rattle.std.proofs.Common.{◌≡◌, true, false, [], ◌∷◌, refl, ap, arith, lit<, lit≤}
use Rattle.bloom_growing.proofs.Common.{chain, content, are_in, Clears, part_now, part_after, Plain}
use Rattle.bloom_plain.proofs.CaseLemmas.{content-case}
use Rattle.bloom_growing.specs.Rotating.{either_contains, IsRotating, IsUnused, Receives, ReceivesAll, both_now, both_taken}
use Rattle.bloom_growing.proofs.Cases.{setup, for_one, number-first, with_one, with_five, with_none, inserts-one, rotating}
use Rattle.bloom_growing.proofs.RotatingLemmas.{rotating-none}

-- a hash is contained that either filter has, and no other
contains : (either_contains Plain (rotating 3 with_one with_none 0 1) 1 ≡ true)
    × (either_contains Plain (rotating 3 with_none with_one 1 0) 1 ≡ true)
    × (either_contains Plain (rotating 3 with_none with_none 0 0) 1 ≡ false)
unfolding content chain are_in
contains = (refl, refl, refl)

-- a filter that was just made has its setup, and neither took a hash nor turned over
unused : IsUnused Plain setup (rotating 1 for_one for_one 0 0)
    × (IsUnused Plain setup (rotating 2 for_one for_one 0 0) → ⊥)
    × (IsUnused Plain setup (rotating 1 for_one for_one 1 0) → ⊥)
    × (IsUnused Plain setup (rotating 1 for_one for_one 0 1) → ⊥)
unused = (
  record { setup = refl; older = number-first; newer = number-first; taken = refl; turns = refl },
  λ is. let wrong : 2 ≡ 1 = ap (λ p. p.room) is.setup in omega (arith, wrong),
  λ is. let wrong : 1 ≡ 0 = is.taken in omega (arith, wrong),
  λ is. let wrong : 1 ≡ 0 = is.turns in omega (arith, wrong),
)

-- it keeps the rule; the newer filter always has room
rule : IsRotating Plain (rotating 1 for_one for_one 0 0)
    × (IsRotating Plain (rotating 1 for_one for_one 1 0) → ⊥)
rule = (
  rotating-none Plain (rotating 1 for_one for_one 0 0) (lit≤ tt) number-first number-first refl
      refl,
  λ is. omega (arith, is.has_room),
)

-- a word that is cleared
cleared : Clears with_five with_none
unfolding content
cleared = record {
  bits = content-case (0 ∷ []) (λ p. false) refl (λ p past. refl);
  shape = record { words = refl; hashes = refl };
  hasher = refl;
}

-- a new hash is taken by the newer filter, also where the older one has it
fills : Receives Plain (rotating 2 with_one with_none 0 4) 1 (rotating 2 with_one with_one 1 4) true
unfolding content chain are_in
fills = record {
  answers = refl;
  setup = refl;
  held = λ held. let wrong : false ≡ true = held in cc;
  fills = λ _ _. record { older = refl; newer = inserts-one; taken = refl; turns = refl };
  turns = λ _ full. absurd (omega (arith, full));
}

-- the reply isn't false, the hash isn't left to age, and the filter doesn't turn over early
fills-wrong : (Receives Plain (rotating 2 with_one with_none 0 4) 1
    (rotating 2 with_one with_one 1 4) false → ⊥)
    × (Receives Plain (rotating 2 with_one with_none 0 4) 1
    (rotating 2 with_one with_none 0 4) true → ⊥)
    × (Receives Plain (rotating 2 with_one with_none 0 4) 1
    (rotating 2 with_one with_none 0 5) true → ⊥)
unfolding content chain are_in
fills-wrong = (
  λ did. let wrong : false ≡ true = did.answers in cc,
  λ did. let wrong : 0 ≡ 1 = (did.fills refl (lit< tt)).taken in omega (arith, wrong),
  λ did. let wrong : 5 ≡ 4 = (did.fills refl (lit< tt)).turns in omega (arith, wrong),
)

-- it turns over once its room is taken, and clears the older filter
turns : Receives Plain (rotating 1 with_five with_none 0 4) 1 (rotating 1 with_one with_none 0 5)
    false
unfolding content chain are_in
turns = record {
  answers = refl;
  setup = refl;
  held = λ held. let wrong : false ≡ true = held in cc;
  fills = λ _ spare. absurd (omega (arith, spare));
  turns = λ _ _. record { older = inserts-one; newer = cleared; taken = refl; turns = refl };
}

-- it doesn't turn over late, and leaves the older one neither uncleared nor its turn uncounted
turns-wrong : (Receives Plain (rotating 1 with_five with_none 0 4) 1
    (rotating 1 with_five with_one 1 4) false → ⊥)
    × (Receives Plain (rotating 1 with_five with_none 0 4) 1
    (rotating 1 with_one with_five 0 5) false → ⊥)
    × (Receives Plain (rotating 1 with_five with_none 0 4) 1
    (rotating 1 with_one with_none 0 4) false → ⊥)
unfolding content chain are_in
turns-wrong = (
  λ did. let wrong : 1 ≡ 0 = (did.turns refl (lit≤ tt)).taken in omega (arith, wrong),
  λ did. let wrong : true ≡ false = (did.turns refl (lit≤ tt)).newer.bits 2 in cc,
  λ did. let wrong : 4 ≡ 5 = (did.turns refl (lit≤ tt)).turns in omega (arith, wrong),
)

-- a hash that the newer filter contains changes nothing, and the setup stays
held-wrong : (Receives Plain (rotating 3 with_five with_one 1 4) 1
    (rotating 3 with_five with_one 2 4) true → ⊥)
    × (Receives Plain (rotating 2 with_one with_none 0 4) 1 (rotating 3 with_one with_one 1 4) true
    → ⊥)
unfolding content chain are_in
held-wrong = (
  λ did. let wrong : 2 ≡ 1 = ap (λ r. r.taken) (did.held refl) in omega (arith, wrong),
  λ did. let wrong : 3 ≡ 2 = ap (λ p. p.room) did.setup in omega (arith, wrong),
)

-- a list is one insert after the other, and no list changes nothing
receives-all : ReceivesAll Plain (rotating 1 with_five with_none 0 4) (1 ∷ [])
    (rotating 1 with_one with_none 0 5)
    × (ReceivesAll Plain (rotating 3 with_five with_one 1 4) []
    (rotating 3 with_five with_one 2 4) → ⊥)
receives-all = (
  (rotating 1 with_one with_none 0 5, false, turns, refl),
  λ all. let wrong : 2 ≡ 1 = ap (λ r. r.taken) all in omega (arith, wrong),
)

-- the rates of both are those of each as it is
now : both_now (rotating 3 with_one with_none 0 1) ≡ part_now with_one ∷ part_now with_none ∷ []
now = refl

-- or with as many items as it took, of which the older has none before the first turn
taken : (both_taken (rotating 3 with_one with_none 1 1)
    ≡ part_after with_one 3 ∷ part_after with_none 1 ∷ [])
    × (both_taken (rotating 3 with_none with_one 1 0)
    ≡ part_after with_none 0 ∷ part_after with_one 1 ∷ [])
taken = (refl, refl)
