-- The laws of filters that were filled with hashes.
use Rattle.std.proofs.Common.{◌≡◌, inl, inr, ℕ, ◌*◌, Bool, true, false, ◌||◌, cond, List, [], ◌∷◌, map, Some, None, unwrap_or, refl, sym, ◌∙◌, ap, arith}
use Rattle.std.proofs.Math.Bool.{or_assoc, or_comm}
use Rattle.fastbloom.proofs.Common.{or_cases, Contains, content, positions, are_in, words_of, hashes_of, positions_of_all, IsPositionOfOne, HaveSameHashes, UnionOfPositionsLaw, AnyCuttingLaw, FilledByInsertsLaw, FilledByUnionLaw, FilledContainsLaw}
use Rattle.std.proofs.lemmas.List.Elements.{Contains-append_cases, Contains-append_right, Contains-push_cases}
use Rattle.bloom_parts.specs.Deciders.{last_decision}
use Rattle.bloom_parts.specs.Operations.{Insert, decides, state_after}
use Rattle.bloom_parts.proofs.PublishedLemmas.{part-to, unwrap_or-option_or}
use Rattle.bloom_plain.specs.Filter.{num_bits_of}
use Rattle.bloom_plain.specs.Laws.{EqualContentLaw}
use Rattle.fastbloom.proofs.FillLemmas.{positions_of_all-append, filled-same, filled-union}

-- two truth values that imply each other are equal
same-truth : (a b : Bool) → (a ≡ true → b ≡ true) → (b ≡ true → a ≡ true) → a ≡ b
same-truth true b to from = sym (to refl)
same-truth false true to from = from refl
same-truth false false to from = refl

-- after a step that sets some positions, a position is set if it was, or if the step sets it
made-on : (made was : Bool) → unwrap_or (cond made (Some true) None) was ≡ (was || made)
made-on true was = or_comm true was
made-on false was = or_comm false was

module _ (n k : ℕ) where
  -- a position of the union is one of a hash
  of-one : (hashes : List ℕ) (p : ℕ) → positions_of_all n k hashes p ≡ true
      → IsPositionOfOne n k hashes p
  of-one [] p on = cc
  of-one (hash ∷ hashes) p on =
      elim (or_cases (positions n k hash p) (positions_of_all n k hashes p) on) [
        | inl here ↦ record { hash = hash; given = (0, omega arith, refl); here = here }
        | inr later ↦ let one = of-one hashes p later in record {
          hash = one.hash;
          given = Contains-append_right (hash ∷ []) hashes one.hash one.given;
          here = one.here;
        }
      ]

  -- a position of a hash is one of the union
  of-all : (hashes : List ℕ) (p hash : ℕ) → Contains hashes hash → positions n k hash p ≡ true
      → positions_of_all n k hashes p ≡ true
  of-all [] p hash given here = absurd (omega (arith, given.1))
  of-all (first ∷ hashes) p hash given here =
      elim (Contains-append_cases (first ∷ []) hashes hash given) [
        | inl at_first ↦ elim (Contains-push_cases [] first hash at_first) [
          | inl nowhere ↦ absurd (omega (arith, nowhere.1))
          | inr same ↦ ap (λ b. b || positions_of_all n k hashes p)
              (ap (λ h. positions n k h p) same ∙ here)
        ]
        | inr later ↦ ap (λ b. positions n k first p || b) (of-all hashes p hash later here)
            ∙ or_comm (positions n k first p) true
      ]

  -- lists of the same hashes have the same positions
  pub positions-same : (hashes others : List ℕ) → HaveSameHashes hashes others → (p : ℕ)
      → positions_of_all n k hashes p ≡ positions_of_all n k others p
  positions-same hashes others same p = same-truth _ _
      (λ on. let one = of-one hashes p on in
      of-all others p one.hash ((same one.hash).0 one.given) one.here)
      (λ on. let one = of-one others p on in
      of-all hashes p one.hash ((same one.hash).1 one.given) one.here)

  -- after inserts a position is set if it was before, or if it is in the union
  pub state-inserts : (A : ℕ → Bool) (hashes : List ℕ) (p : ℕ)
      → state_after n k A (map Insert hashes) p ≡ (A p || positions_of_all n k hashes p)
  state-inserts A [] p = or_comm false (A p)
  state-inserts A (hash ∷ hashes) p =
      let made = decides n k (Insert hash) in
      let later = map (decides n k) (map Insert hashes) in
      unwrap_or-option_or (last_decision later p) (made p) (A p)
      ∙ state-inserts (λ q. unwrap_or (made q) (A q)) hashes p
      ∙ ap (λ b. b || positions_of_all n k hashes p) (made-on (positions n k hash p) (A p))
      ∙ or_assoc (A p) (positions n k hash p) (positions_of_all n k hashes p)

-- `positions_of_all` is the union of the positions of the hashes
pub union_of_positions_law : UnionOfPositionsLaw
union_of_positions_law n k hashes p =
    (of-one n k hashes p, λ one. of-all n k hashes p one.hash one.given one.here)

-- filters that were filled with the same hashes are equal, since they have the same content
pub any_cutting_law : (S : Type 0) → EqualContentLaw S → AnyCuttingLaw S
any_cutting_law S equality shape f g hashes others f_words g_words f_filled g_filled same =
    (equality f g f_words g_words (filled-same shape f g hashes others f_filled g_filled)).1
    (λ p. f_filled.bits p
    ∙ positions-same (64 * words_of shape) (hashes_of shape) hashes others same p
    ∙ sym (g_filled.bits p))

-- inserts fill a filter with their hashes besides those that it had
pub filled_by_inserts_law : (S : Type 0) → FilledByInsertsLaw S
filled_by_inserts_law S shape old new earlier hashes filled inserted =
    let did = inserted.1 in
    let n = 64 * words_of shape in
    let k = hashes_of shape in record {
      words = sym did.shape.words ∙ filled.words;
      num_hashes = sym did.shape.hashes ∙ filled.num_hashes;
      bits = λ p. did.bits p
          ∙ state-inserts (num_bits_of old) old.hashes (content old.words) hashes p
          ∙ ap (λ w. content old.words p || positions_of_all (64 * w) old.hashes hashes p)
          filled.words
          ∙ ap (λ h. content old.words p || positions_of_all n h hashes p) filled.num_hashes
          ∙ ap (λ b. b || positions_of_all n k hashes p) (filled.bits p)
          ∙ sym (positions_of_all-append n k earlier hashes p);
    }

-- the union of two filled filters is filled with the hashes of both
pub filled_by_union_law : (S : Type 0) → FilledByUnionLaw S
filled_by_union_law S shape old other new hashes others filled added united =
    filled-union shape old other new hashes others filled added united

-- a filled filter contains each of its hashes, since all their positions are set
pub filled_contains_law : (S : Type 0) → FilledContainsLaw S
filled_contains_law S shape f hashes hash filled given =
    let n = 64 * words_of shape in
    let k = hashes_of shape in
    ap (λ w. are_in (64 * w) f.hashes hash (content f.words)) filled.words
    ∙ ap (λ h. are_in n h hash (content f.words)) filled.num_hashes
    ∙ part-to n k hash (content f.words)
    (λ p here. filled.bits p ∙ of-all n k hashes p hash given here)
