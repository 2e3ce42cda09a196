-- Trees of unions: cases that hold, and the nearest that don't.
use Rattle.std.proofs.Common.{◌≡◌, ℕ, true, false, ◌||◌, [], ◌∷◌, refl, ap, ◌∙◌}
use Rattle.summaries_engine.proofs.Common.{chain, content, positions, sip, alike_below, content-case, content-past, positions_of_all, Classic, UnitesParts, IsSummaryOf}
use Rattle.summaries_engine.specs.Trees.{Tree, Part, United, keys_of, TreeMakes}
use Rattle.summaries_engine.proofs.Cases.{filter, hash-a, hash-b, key_a, key_b, of_a, of_b, of_both, shape, summary-a, summary-b}
use Rattle.summaries_engine.proofs.TreeLemmas.{tree_summary_law}

-- "a" and "b" in two parts that are united first, and then the part of "a" once more
abbrev repeated : Tree
repeated = United (United (Part (key_a ∷ [])) (Part (key_b ∷ []))) (Part (key_a ∷ []))

-- the keys come in the order of the parts, each as often as its part
keys-repeated : keys_of repeated ≡ key_a ∷ key_b ∷ key_a ∷ []
keys-repeated = refl

-- filters of two words are united to one that has the bits of both
united : (one other word : ℕ) → alike_below 64 (content (word ∷ []))
    (λ p. content (one ∷ []) p || content (other ∷ []) p) ≡ true
    → UnitesParts (Classic (filter one)) (Classic (filter other)) (Classic (filter word))
united one other word alike = record {
  kind = refl;
  parts = record {
    bits = content-case (word ∷ []) (λ p. content (one ∷ []) p || content (other ∷ []) p) alike
        (λ p past. ap (λ b. b || content (other ∷ []) p) (content-past (one ∷ []) p past)
        ∙ content-past (other ∷ []) p past);
    shape = record { words = refl; hashes = refl };
    hasher = refl;
  };
}

-- a tree with a part that comes twice makes the filter of both keys, and not that of "a" alone
makes : TreeMakes shape repeated of_both × (TreeMakes shape repeated of_a → ⊥)
unfolding content positions chain
makes = (
  (
    of_both,
    of_a,
    (
      of_a,
      of_b,
      summary-a,
      summary-b,
      refl,
      refl,
      united 268500992 281492156579840 281492425080832 refl,
    ),
    summary-a,
    refl,
    refl,
    united 281492425080832 268500992 281492425080832 refl,
  ),
  λ did.
      let summary : IsSummaryOf shape (key_a ∷ key_b ∷ key_a ∷ []) of_a =
      tree_summary_law shape repeated of_a did in
      let wrong : false ≡ true =
      summary.bits 34
      ∙ ap (λ h. positions_of_all 64 2 (h ∷ sip 0 0 key_b ∷ h ∷ []) 34) hash-a
      ∙ ap (λ h. positions_of_all 64 2
      (0x4074_48d2_b89b_1813 ∷ h ∷ 0x4074_48d2_b89b_1813 ∷ []) 34) hash-b in cc,
)
