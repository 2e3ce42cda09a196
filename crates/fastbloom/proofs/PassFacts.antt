-- What contracts say of seated filters, of passes, and of inserts by them: cases that hold, and the
-- nearest that don't. Hash 1 has the positions 0 and 20 among 64 bits.
use Rattle.std.proofs.Common.{◌≡◌, ℕ, ◌^◌, Bool, true, false, ◌||◌, eqb, List, [], ◌∷◌, length, slice_index, inl, inr, refl, sym, ap, ◌∙◌, arith, lit<, lit≤}
use Rattle.fastbloom.proofs.Common.{or-false, both_ways, TableId, part-from, chain, content, positions, are_in, InsertsAs, IsNewPass, IsSamePass, IsSure, Sight, contains_known, seated_num_bits, seated_positions, sight_of, sure_of, FilterSeat, set_of, Note, Pass}
use Rattle.fastbloom.specs.Seats.{IsPassSeat, IsStanding}
use Rattle.fastbloom.specs.declared.seated.rule.Size.{Size}
use Rattle.fastbloom.proofs.Cases.{nothing, one-from, pass, same-pass, seated, table}

-- the set of a list has its first and its last number, and no other
sets : (set_of (5 ∷ 7 ∷ []) 5 ≡ true) × (set_of (5 ∷ 7 ∷ []) 7 ≡ true)
    × (set_of (5 ∷ 7 ∷ []) 6 ≡ false)
unfolding set_of
sets = (refl, refl, refl)

-- a filter of one word has 64 bits, and the positions of hash 1 among them
bits : (seated_num_bits seated ≡ 64)
    × (seated_positions seated 1 20 ≡ true)
    × (seated_positions seated 1 21 ≡ false)
unfolding positions chain
bits = (refl, refl, refl)

-- a seat is seen as the pass of its table, with what it carries, knows and gained
sight : (seat : FilterSeat) → sight_of seat ≡ record {
  filter = seat.table_id;
  start = seat.me.0.start;
  known = seat.me.0.known;
  gained = seat.me.0.gained;
}
sight seat = refl

-- a size of this many words
abbrev size : ℕ → Size
size words = record { words = words; passes = 1 }

-- the least filter has one word and one hash; a filter has fewer than 2^58 words, as many as the
-- rule of its table says, and no slots
standing : IsStanding (table 1 7) (size 1) 1
    × (IsStanding (table 0 7) (size 0) 1 → ⊥)
    × (IsStanding (table (2 ^ 58) 7) (size (2 ^ 58)) 1 → ⊥)
    × (IsStanding (table 1 7) (size 1) 0 → ⊥)
    × (IsStanding (table 1 7) (size 2) 1 → ⊥)
    × (IsStanding (record (table 1 7) { slots = 1 }) (size 1) 1 → ⊥)
standing = (
  record {
    some_words = lit≤ tt;
    few_words = lit< tt;
    some_hashes = lit≤ tt;
    words = refl;
    no_slots = refl;
  },
  λ is. omega (arith, is.some_words),
  λ is. omega (arith, is.few_words),
  λ is. omega (arith, is.some_hashes),
  λ is. omega (arith, is.words),
  λ is. omega (arith, is.no_slots),
)

-- the seat of a note isn't that of a pass, which carries as many words as the table has
pass_seat : (seat : FilterSeat) → seat.table_id ≡ table 2 7
    → (seat.me.0.role ≡ Note → IsPassSeat seat → ⊥)
    × (seat.me.0.start ≡ 1 ∷ [] → IsPassSeat seat → ⊥)
pass_seat seat there = (
  λ note is. (let wrong : Note ≡ Pass = sym note ∙ is.role in cc),
  λ carried is. omega (
    arith,
    ap (λ list. length list) carried,
    ap (λ (t : TableId). t.words) there,
    is.whole,
  ),
)

-- a new pass is of its filter, which began with its words, and knows and gained nothing
new_pass : IsNewPass (table 1 7) (5 ∷ []) (pass 5 [] [])
    × (IsNewPass (table 1 8) (5 ∷ []) (pass 5 [] []) → ⊥)
    × (IsNewPass (table 1 7) (4 ∷ []) (pass 5 [] []) → ⊥)
    × (IsNewPass (table 1 7) (5 ∷ []) (pass 5 (0 ∷ []) []) → ⊥)
    × (IsNewPass (table 1 7) (5 ∷ []) (pass 5 [] (0 ∷ [])) → ⊥)
new_pass = (
  record { filter_is = refl; start_is = refl; known = refl; gained = refl },
  λ new. omega (arith, ap (λ (t : TableId). t.views_name) new.filter_is),
  λ new. omega (arith, ap (λ words. slice_index words 0) new.start_is),
  λ new. (let wrong : ◌≡◌ {A = List ℕ} (0 ∷ []) [] = new.known in cc),
  λ new. (let wrong : ◌≡◌ {A = List ℕ} (0 ∷ []) [] = new.gained in cc),
)

-- a pass of another filter isn't the same, nor is one of other words at the start
same_pass : IsSamePass (pass 5 [] []) (pass 5 (0 ∷ []) (0 ∷ []))
    × (IsSamePass (pass 5 [] []) (record (pass 5 [] []) { filter = table 1 8 }) → ⊥)
    × (IsSamePass (pass 5 [] []) (pass 4 [] []) → ⊥)
same_pass = (
  same-pass 5 [] [] (0 ∷ []) (0 ∷ []),
  λ same. omega (arith, ap (λ (t : TableId). t.views_name) same.filter),
  λ same. omega (arith, ap (λ words. slice_index words 0) same.start),
)

-- a pass contains hash 1 where it knows both its positions; what the filter began with is sure, and
-- isn't known
knows : (contains_known seated (pass 0 (20 ∷ 0 ∷ []) []) 1 ≡ true)
    × (contains_known seated (pass 1 (20 ∷ []) []) 1 ≡ false)
    × IsSure seated (pass 1 (20 ∷ []) []) 1
    × (IsSure seated (pass 1 (21 ∷ []) []) 1 → ⊥)
unfolding positions are_in set_of chain content
knows = (
  refl,
  refl,
  part-from 64 2 1 (sure_of (pass 1 (20 ∷ []) [])) refl,
  λ sure. both_ways (sure_of (pass 1 (21 ∷ []) []) 20) refl (sure 20 refl),
)

-- from old to new a pass set the positions of hash 1, by one hash, which is position 0
abbrev Inserts : Sight → Sight → Bool → Type 0
Inserts old new answer = InsertsAs (positions 64 1 1) old new answer

-- a pass sets a position that is clear, and gains it; or one that it knows
inserts : Inserts (pass 0 [] []) (pass 0 (0 ∷ []) (0 ∷ [])) false
    × Inserts (pass 0 (0 ∷ []) []) (pass 0 (0 ∷ []) []) true
unfolding set_of positions chain content
inserts = (
  record {
    same = same-pass 0 [] [] (0 ∷ []) (0 ∷ []);
    known = λ p. or-false (eqb p 0);
    kept = λ p is. absurd (nothing p is);
    gained = λ p is.
        let here : p ≡ 0 = one-from 0 p is in
        inr (ap (positions 64 1 1) here ∙ refl, ap (sure_of (pass 0 [] [])) here ∙ refl);
    grew = λ off. record { position = 0; gained = refl; before = refl };
    stayed = λ wrong. absurd (both_ways false refl wrong);
  },
  record {
    same = same-pass 0 (0 ∷ []) [] (0 ∷ []) [];
    known = λ p. twice (eqb p 0);
    kept = λ p is. is;
    gained = λ p is. inl is;
    grew = λ wrong. absurd (both_ways true wrong refl);
    stayed = λ on p is. is;
  },
)
  where
    twice : (b : Bool) → (b || false) ≡ ((b || false) || b)
    twice true = refl
    twice false = refl

-- it isn't told true where it gained, nor false where it gained nothing; it knows no position less
-- than those of the hash, and none more; and it stays of its filter, with the words at its start
inserts-not : (Inserts (pass 0 [] []) (pass 0 (0 ∷ []) (0 ∷ [])) true → ⊥)
    × (Inserts (pass 0 [] []) (pass 0 (0 ∷ []) []) false → ⊥)
    × (Inserts (pass 0 [] []) (pass 0 [] []) true → ⊥)
    × (Inserts (pass 0 [] []) (pass 0 (0 ∷ 5 ∷ []) []) true → ⊥)
    × (Inserts (pass 0 [] []) (record (pass 0 (0 ∷ []) (0 ∷ [])) { filter = table 1 8 }) false → ⊥)
    × (Inserts (pass 0 [] []) (pass 1 (0 ∷ []) (0 ∷ [])) false → ⊥)
unfolding set_of positions chain
inserts-not = (
  λ did. both_ways (set_of [] 0) refl (did.stayed refl 0 refl),
  λ did. (let more = did.grew refl in nothing more.position more.gained),
  λ did. (let wrong : false ≡ true = did.known 0 in cc),
  λ did. (let wrong : true ≡ false = did.known 5 in cc),
  λ did. omega (arith, ap (λ (t : TableId). t.views_name) did.same.filter),
  λ did. omega (arith, ap (λ words. slice_index words 0) did.same.start),
)

-- it gains neither what the filter began with, nor what it knew, nor what another hash sets; and it
-- gives up nothing
gains-not : (Inserts (pass 1 [] []) (pass 1 (0 ∷ []) (0 ∷ [])) false → ⊥)
    × (Inserts (pass 0 (0 ∷ []) []) (pass 0 (0 ∷ []) (0 ∷ [])) false → ⊥)
    × (Inserts (pass 0 (5 ∷ []) []) (pass 0 (0 ∷ 5 ∷ []) (5 ∷ [])) false → ⊥)
    × (Inserts (pass 0 (0 ∷ []) (0 ∷ [])) (pass 0 (0 ∷ []) []) true → ⊥)
unfolding set_of positions chain content
gains-not = (
  λ did. elim (did.gained 0 refl) [
    | inl was ↦ nothing 0 was
    | inr fresh ↦ both_ways (sure_of (pass 1 [] []) 0) fresh.1 refl
  ],
  λ did. elim (did.gained 0 refl) [
    | inl was ↦ nothing 0 was
    | inr fresh ↦ both_ways (sure_of (pass 0 (0 ∷ []) []) 0) fresh.1 refl
  ],
  λ did. elim (did.gained 5 refl) [
    | inl was ↦ nothing 5 was
    | inr fresh ↦ both_ways (positions 64 1 1 5) refl fresh.0
  ],
  λ did. nothing 0 (did.kept 0 refl),
)
