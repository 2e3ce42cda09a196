-- Filters that grow: of each definition cases that hold, and the nearest that don't.
use Rattle.std.proofs.Common.{◌≡◌, ◌<◌, ℕ, true, false, [], ◌∷◌, length, Option, Some, None, refl, ◌∙◌, ap, arith, lit<, lit≤}
use Rattle.bloom_growing.proofs.Common.{chain, content, are_in, Memory, Rate, Plain}
use Rattle.bloom_parts.specs.declared.error.FilterError.{FilterError}
use Rattle.bloom_growing.specs.Growing.{Setup, setup_of, Growing, newest_room, has, IsGrown}
use Rattle.bloom_growing.specs.GrowingInserts.{IsBegun, Accepts, of_builders, RefusesNumber, RefusesInsert}
use Rattle.bloom_growing.specs.GrowingLaws.{AcceptsAll, sum_of_rates, RatesBelowLaw}
use Rattle.bloom_growing.specs.declared.growing.error.GrowingError.TheVariants.{RateOverflow, TooManyItems, Filter}
use Rattle.bloom_growing.proofs.Cases.{rate, four, halvings-none, setup, for_one, number-first, with_one, with_five, with_none, inserts-one, grown}
use Rattle.bloom_growing.proofs.GrowingLemmas.{took-none}

-- the room is doubled with each filter
rooms : (newest_room (grown [] with_none 0) ≡ 1)
    × (newest_room (grown (with_one ∷ []) with_none 0) ≡ 2)
    × (newest_room (grown (with_one ∷ with_one ∷ []) with_none 0) ≡ 4)
rooms = (refl, refl, refl)

-- a hash is found in an older filter, and in the newest, and not where none has it
has-one : (has Plain (grown (with_one ∷ []) with_none 0) 1 ≡ true)
    × (has Plain (grown (with_none ∷ []) with_one 1) 1 ≡ true)
    × (has Plain (grown (with_none ∷ []) with_none 0) 1 ≡ false)
unfolding content chain are_in
has-one = (refl, refl, refl)

-- what is asked for at the rate four, for one item, under the hasher 7
abbrev asked : Setup ℕ
asked = record { rate = four; room = 1; hasher = 7 }

-- a filter that was just made has its setup, no full filter, and took nothing yet
begun : IsBegun Plain asked (grown [] for_one 0)
    × (IsBegun Plain (setup_of four 2 7) (grown [] for_one 0) → ⊥)
    × (IsBegun Plain asked (grown (with_one ∷ []) for_one 0) → ⊥)
    × (IsBegun Plain asked (grown [] for_one 1) → ⊥)
begun = (
  record { setup = refl; older = refl; newest = number-first; taken = refl },
  λ is. let wrong : 1 ≡ 2 = ap (λ p. p.room) is.setup in omega (arith, wrong),
  λ is. let wrong : 1 ≡ 0 = ap length is.older in omega (arith, wrong),
  λ is. let wrong : 1 ≡ 0 = is.taken in omega (arith, wrong),
)

-- a filter that grows from no items on
abbrev roomless : Growing ℕ
roomless = record { setup = setup_of four 0 7; older = []; newest = for_one; taken = 0 }

-- it keeps the rule; the newest filter takes no more than its room, which isn't zero at first
rule : IsGrown Plain (grown [] for_one 0) × (IsGrown Plain (grown [] with_one 2) → ⊥)
    × (IsGrown Plain roomless → ⊥)
rule = (
  record {
    some_room = lit≤ tt;
    full = tt;
    newest = took-none Plain setup [] for_one number-first;
    most = lit≤ tt;
  },
  λ is. omega (arith, is.most),
  λ is. omega (arith, is.some_room),
)

-- a new hash is taken by the newest filter, where that one has room
takes-spare : Accepts Plain (grown [] with_none 0) 1 (grown [] with_one 1) false
unfolding content chain are_in
takes-spare = record {
  answers = refl;
  held = λ held. let wrong : false ≡ true = held in cc;
  spare = λ _ _. record { setup = refl; older = refl; newest = inserts-one; taken = refl };
  full = λ _ full. absurd (omega (arith, full));
}

-- it counts, the reply isn't true, and the next filter doesn't begin early
spare-wrong : (Accepts Plain (grown [] with_none 0) 1 (grown [] with_one 0) false → ⊥)
    × (Accepts Plain (grown [] with_none 0) 1 (grown [] with_one 1) true → ⊥)
    × (Accepts Plain (grown [] with_none 0) 1 (grown (with_none ∷ []) with_one 1) false → ⊥)
unfolding content chain are_in
spare-wrong = (
  λ did. let wrong : 0 ≡ 1 = (did.spare refl (lit< tt)).taken in omega (arith, wrong),
  λ did. let wrong : true ≡ false = did.answers in cc,
  λ did.
      let wrong : 1 ≡ 0 = ap length (did.spare refl (lit< tt)).older in omega (arith, wrong),
)

-- nor late, and a hash that is contained doesn't count
full-wrong : (Accepts Plain (grown [] with_five 1) 1 (grown [] with_one 2) false → ⊥)
    × (Accepts Plain (grown [] with_one 0) 1 (grown [] with_one 1) true → ⊥)
unfolding content chain are_in
full-wrong = (
  λ did.
      let next = did.full refl (lit≤ tt) in
      let wrong : 0 ≡ 1 = ap length (next.2.older ∙ next.1.older) in
      omega (arith, wrong),
  λ did. let wrong : 1 ≡ 0 = ap (λ g. g.taken) (did.held refl) in omega (arith, wrong),
)

-- a list is one insert after the other, and no list changes nothing
takes-all : AcceptsAll Plain (grown [] with_none 0) (1 ∷ []) (grown [] with_one 1)
    × (AcceptsAll Plain (grown [] with_one 0) [] (grown [] with_one 1) → ⊥)
takes-all = (
  (grown [] with_one 1, false, takes-spare, refl),
  λ all. let wrong : 1 ≡ 0 = ap (λ g. g.taken) all in omega (arith, wrong),
)

-- of the rate four 4 / 2 and 4 / 4 sum to 24 / 8, which is less
sums : (sum_of_rates four 0 ≡ (0, 1)) × (sum_of_rates four 2 ≡ (24, 8)) × (RatesBelowLaw → 24 < 32)
sums = (refl, refl, λ law. law four 2)

-- the rate 1 / 2^63, whose half would have the lower part 2^64
abbrev least_rate : Rate
least_rate = rate 1 9223372036854775808 (lit< tt) (lit< tt)

-- the first filter is refused for the rate, also where its room of 2^64 would be refused
refuses-rate : RefusesNumber Plain least_rate 1 0 (Some RateOverflow)
    × (RefusesNumber Plain least_rate 18446744073709551616 0 (Some TooManyItems) → ⊥)
refuses-rate = (
  record {
    rate_refused = λ _. refl;
    room_refused = λ small _. absurd (omega (arith, small));
    size_refused = λ small _. absurd (omega (arith, small));
  },
  λ is. let wrong : Some TooManyItems ≡ Some RateOverflow = is.rate_refused (lit≤ tt) in cc,
)

-- the second filter of a room of 2^63 would be for 2^64 items
refuses-room : RefusesNumber Plain four 9223372036854775808 1 (Some TooManyItems)
    × (RefusesNumber Plain four 9223372036854775808 1 None → ⊥)
refuses-room = (
  record {
    rate_refused = λ large. absurd (omega (arith, large));
    room_refused = λ _ _. refl;
    size_refused = λ _ few. absurd (omega (arith, few));
  },
  λ is. let wrong : None ≡ Some TooManyItems = is.room_refused (lit< tt) (lit≤ tt) in cc,
)

-- the second filter of a room of one has one word: it is made, or out of memory
refuses-size : RefusesNumber Plain four 1 1 None
    × RefusesNumber Plain four 1 1 (Some (Filter Memory))
    × (RefusesNumber Plain four 1 1 (Some RateOverflow) → ⊥)
refuses-size = (
  record {
    rate_refused = λ large. absurd (omega (arith, large));
    room_refused = λ _ many. absurd (omega (arith, many));
    size_refused = λ _ _. (64, (0, halvings-none 4 (lit≤ tt), refl), None, tt, refl);
  },
  record {
    rate_refused = λ large. absurd (omega (arith, large));
    room_refused = λ _ many. absurd (omega (arith, many));
    size_refused = λ _ _. (64, (0, halvings-none 4 (lit≤ tt), refl), Some Memory, refl, refl);
  },
  λ is. none-told (is.size_refused (lit< tt) (lit< tt)).2 (is.size_refused (lit< tt) (lit< tt)).4,
)
  where
    -- the builders tell of no rate
    none-told : (refusal : Option FilterError) → Some RateOverflow ≡ of_builders refusal → ⊥
    none-told None wrong = cc
    none-told (Some e) wrong = cc

-- an insert is refused as the next filter is, where the newest is full
refuses-insert : RefusesInsert Plain (grown [] with_five 1) 1 (Some (Filter Memory))
    × (RefusesInsert Plain (grown [] with_five 1) 1 (Some RateOverflow) → ⊥)
unfolding content chain are_in
refuses-insert = (
  record {
    held = λ held. let wrong : false ≡ true = held in cc;
    spare = λ spare. absurd (omega (arith, spare));
    full = λ _ _. refuses-size.1;
  },
  λ is. refuses-size.2 (is.full refl (lit≤ tt)),
)

-- and neither where there is room, nor where the hash is contained
insert-wrong : (RefusesInsert Plain (grown [] with_none 0) 1 (Some (Filter Memory)) → ⊥)
    × (RefusesInsert Plain (grown [] with_one 1) 1 (Some (Filter Memory)) → ⊥)
unfolding content chain are_in
insert-wrong = (
  λ is. let wrong : Some (Filter Memory) ≡ None = is.spare (lit< tt) in cc,
  λ is. let wrong : Some (Filter Memory) ≡ None = is.held refl in cc,
)
