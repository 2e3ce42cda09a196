-- Filters of either kind: cases that hold, and the nearest that don't.
use Rattle.std.proofs.Common.{◌≡◌, true, false, ◌||◌, ◌&&◌, [], ◌∷◌, refl, ap, ◌∙◌, arith}
use Rattle.std.proofs.lemmas.Bool.{le-ltb}
use Rattle.std.specs.Prelude.{nat_lt, slice_index}
use Rattle.summaries_engine.proofs.Common.{Whole, Lines, chain, content, are_in, content-case, content-past, DefaultFilter, Classic, Blocked}
use Rattle.fastbloom.specs.FilterFiles.{file_of}
use Rattle.summaries_engine.specs.Kinds.{HaveSameKind, HaveOneShape, TellsEach, UnitesParts, file_of_kind, has_hash, parts_of}
use Rattle.summaries_engine.proofs.Cases.{line, made_of, of_a}

-- the parts are the filter's own
parts : (f : DefaultFilter) → (parts_of (Classic f) ≡ f) × (parts_of (Blocked f) ≡ f)
parts f = (refl, refl)

-- words in lines have the key as a blocked filter, and not as another
has-key : (has_hash (Blocked (line 268435968)) 0x4074_48d2_b89b_1813 ≡ true)
    × (has_hash (Classic (line 268435968)) 0x4074_48d2_b89b_1813 ≡ false)
unfolding content are_in chain
has-key = (refl, refl)

-- of "a" and "b" the first is found: its bit is set, and neither that of the second nor a third one
tells-each : (TellsEach of_a (0x4074_48d2_b89b_1813 ∷ 0x8b22_cf26_02fb_60ce ∷ []) (1 ∷ []))
    × (TellsEach of_a (0x4074_48d2_b89b_1813 ∷ 0x8b22_cf26_02fb_60ce ∷ []) (0 ∷ []) → ⊥)
    × (TellsEach of_a (0x4074_48d2_b89b_1813 ∷ 0x8b22_cf26_02fb_60ce ∷ []) (3 ∷ []) → ⊥)
    × (TellsEach of_a (0x4074_48d2_b89b_1813 ∷ 0x8b22_cf26_02fb_60ce ∷ []) (5 ∷ []) → ⊥)
unfolding content are_in chain
tells-each = (
  content-case (1 ∷ [])
      (λ i. nat_lt i 2 && has_hash of_a
      (slice_index (0x4074_48d2_b89b_1813 ∷ 0x8b22_cf26_02fb_60ce ∷ []) i)) refl
      (λ i past. ap (λ b. b && has_hash of_a
      (slice_index (0x4074_48d2_b89b_1813 ∷ 0x8b22_cf26_02fb_60ce ∷ []) i))
      (le-ltb i 2 (omega (arith, past)))),
  λ told. let wrong : false ≡ true = told 0 in cc,
  λ told. let wrong : true ≡ false = told 1 in cc,
  λ told. let wrong : true ≡ false = told 2 in cc,
)

-- the file of a blocked filter is one of lines, and that of another isn't
files : (f : DefaultFilter) → (file_of_kind (Blocked f) ≡ file_of Lines f)
    × (file_of_kind (Classic f) ≡ file_of Whole f)
files f = (refl, refl)

-- two blocked filters are of one kind, and a blocked one isn't of that of another
same-kind : (f g : DefaultFilter)
    → HaveSameKind (Blocked f) (Blocked g) × (HaveSameKind (Blocked f) (Classic f) → ⊥)
same-kind f g = (refl, λ same. let wrong : Lines ≡ Whole = same in cc)

-- the shape doesn't tell the kind, and differs by a hash or a word
same-shape : (HaveOneShape (Blocked (line 1)) (Classic (line 2)))
    × (HaveOneShape (Blocked (made_of (1 ∷ []) 2 0 0)) (Blocked (made_of (1 ∷ []) 3 0 0)) → ⊥)
    × (HaveOneShape (Blocked (made_of (1 ∷ []) 2 0 0)) (Blocked (made_of (1 ∷ 0 ∷ []) 2 0 0)) → ⊥)
same-shape = (
  record { words = refl; hashes = refl },
  λ same. let wrong : 2 ≡ 3 = same.hashes in omega (arith, wrong),
  λ same. let wrong : 1 ≡ 2 = same.words in omega (arith, wrong),
)

-- the bits of both are set in the union, which neither the first alone is nor a filter of another
-- kind
unites : UnitesParts (Blocked (line 1)) (Blocked (line 2)) (Blocked (line 3))
    × (UnitesParts (Blocked (line 1)) (Blocked (line 2)) (Blocked (line 1)) → ⊥)
    × (UnitesParts (Blocked (line 1)) (Blocked (line 2)) (Classic (line 3)) → ⊥)
unfolding content
unites = (
  record {
    kind = refl;
    parts = record {
      bits = content-case (line 3).words
          (λ p. content (line 1).words p || content (line 2).words p) refl
          (λ p past. ap (λ b. b || content (line 2).words p) (content-past (line 1).words p past)
          ∙ content-past (line 2).words p past);
      shape = record { words = refl; hashes = refl };
      hasher = refl;
    };
  },
  λ did. let wrong : false ≡ true = did.parts.bits 193 in cc,
  λ did. let wrong : Lines ≡ Whole = did.kind in cc,
)
