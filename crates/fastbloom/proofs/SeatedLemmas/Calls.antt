-- What calls answer of what a pass knows or can be sure of.
use Rattle.std.proofs.Common.{◌≡◌, ℕ, Bool, true, false, ◌||◌, inl, inr, refl, sym, ap, ◌∙◌, subst, arith}
use Rattle.std.proofs.lemmas.Bool.{both_ways, cases_Bool, or_cases, or_left, or_right, true_from_ne_false}
use Rattle.fastbloom.proofs.Common.{content, IsPart, place, positions, are_in, Sight, SeatedFilter, known_of, gained_of, sure_of, seated_num_bits, seated_positions, contains_known, IsSure, IsSamePass, InsertsAs, Finds}
use Rattle.bloom_parts.proofs.PublishedLemmas.{position-from, position-to, place-position, part-to, are_in-off}

-- a pass stays sure of what it was sure of as it comes to know more
pub sure-kept : (old new : Sight) → IsSamePass old new → IsPart (known_of old) (known_of new)
    → IsPart (sure_of old) (sure_of new)
sure-kept old new same kept p sure =
    elim (or_cases (content old.start p) (known_of old p) sure) [
      | inl begun ↦
          or_left (content new.start p) (known_of new p)
          (ap (λ l. content l p) same.start ∙ begun)
      | inr known ↦ or_right (content new.start p) (known_of new p) (kept p known)
    ]

-- an insert of positions that the pass could be sure of answers true
pub inserts-sure : (P : ℕ → Bool) (old new : Sight) (answer : Bool) → InsertsAs P old new answer
    → IsPart P (sure_of old) → answer ≡ true
inserts-sure P old new answer did sure = true_from_ne_false answer (λ off.
    let more = did.grew off in
    elim (did.gained more.position more.gained) [
      | inl was ↦ both_ways (gained_of old more.position) more.before was
      | inr fresh ↦ both_ways (sure_of old more.position) fresh.1 (sure more.position fresh.0)
    ])

-- a pass can be sure of what it knows
pub known-sure : (P : ℕ → Bool) (pass : Sight) → IsPart P (known_of pass) → IsPart P (sure_of pass)
known-sure P pass known p is = or_right (content pass.start p) (known_of pass p) (known p is)

-- a look-up of positions that the pass could be sure of answers true
pub finds-sure : (n k hash : ℕ) (old new : Sight) (answer : Bool) → Finds n k hash old new answer
    → IsPart (positions n k hash) (sure_of old) → answer ≡ true
finds-sure n k hash old new answer did sure = true_from_ne_false answer (λ off.
    let last = did.off off in
    let place_is = place n hash did.on in
    both_ways (sure_of new place_is) last.1
    (sure-kept old new did.looks.same did.looks.kept place_is
    (sure place_is (position-to n k hash place_is (place-position n k hash did.on last.0)))))

-- a look-up answers whether all positions are known then
pub finds-known : (n k hash : ℕ) (old new : Sight) (answer : Bool) → Finds n k hash old new answer
    → answer ≡ are_in n k hash (known_of new)
finds-known n k hash old new answer did = elim (cases_Bool answer) [
  | inl on ↦
      let all = (did.all on).0 in
      on ∙ sym (part-to n k hash (known_of new) (λ p is.
      let found = position-from n k hash p is in
      let below = found.below in
      ap (known_of new) (sym found.here) ∙ did.looks.found found.index (omega arith)))
  | inr off ↦
      let last = did.off off in
      let at : ℕ = place n hash did.on in
      off ∙ sym (are_in-off n k hash (known_of new) did.on last.0
      (unknown (content new.start at) (known_of new at) last.1))
]
  where
    unknown : (a b : Bool) → (a || b) ≡ false → b ≡ false
    unknown true b is = absurd (both_ways true is refl)
    unknown false b is = is

-- what calls answer, of a filter and a pass as contracts see them
module _ (f g : SeatedFilter) (a b new : Sight) (hash : ℕ) (answer : Bool) (same_filter : f ≡ g)
    (same_pass : a ≡ b) where
  pub insert-true : InsertsAs (seated_positions f hash) a new answer → IsSure g b hash
      → answer ≡ true
  insert-true did sure =
      inserts-sure (seated_positions g hash) b new answer
      (subst (λ (z : SeatedFilter × Sight). InsertsAs (seated_positions z.0 hash) z.1 new answer)
      (λ i. (same_filter i, same_pass i)) did) sure

  pub find-true : Finds (seated_num_bits f) f.hashes hash a new answer → IsSure g b hash
      → answer ≡ true
  find-true did sure =
      finds-sure (seated_num_bits g) g.hashes hash b new answer
      (subst (λ (z : SeatedFilter × Sight).
      Finds (seated_num_bits z.0) z.0.hashes hash z.1 new answer)
      (λ i. (same_filter i, same_pass i)) did) sure

  pub find-known : Finds (seated_num_bits f) f.hashes hash a new answer
      → answer ≡ contains_known g new hash
  find-known did =
      finds-known (seated_num_bits g) g.hashes hash b new answer
      (subst (λ (z : SeatedFilter × Sight).
      Finds (seated_num_bits z.0) z.0.hashes hash z.1 new answer)
      (λ i. (same_filter i, same_pass i)) did)
