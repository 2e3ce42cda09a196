-- Filters in files of either form, and what is said where none is read: cases that hold, and the
-- nearest that don't.
use Rattle.std.proofs.Common.{◌≡◌, ◌<◌, ℕ, List, [], ◌∷◌, ◌++◌, codes, drop, get_or, None, Some, refl, sym, subst, ap, ◌∙◌, arith, inl, inr}
use Rattle.std.proofs.Math.Logic.{⊎_elim}
use Rattle.summaries_engine.proofs.Common.{HasMessage, error_message, Error, refusal_in, number_at, Begins, Form, Sealed, Unsealed, Json, AnyFilter, Memory, Input, Bad, Output, IsFileOfKind, parts_of}
use Rattle.bloom_files.specs.declared.error.FileError.TheVariants.{Seal}
use Rattle.summaries_engine.specs.Loaded.{HasManyHashes, IsInForm, IsRightWith, IsUnloaded, hashes_text, layout_given, mark_bytes}
use Rattle.summaries_engine.proofs.StopFacts.{says-other}

-- a file is sealed exactly if its seal isn't 0. What begins otherwise than with the mark and a zero
-- byte is text
in-form : (f : AnyFilter) (bytes : List ℕ)
    → (IsFileOfKind bytes f → number_at bytes 5 ≡ 7
    → IsInForm Sealed f bytes × (IsInForm Unsealed f bytes → ⊥))
    × (IsFileOfKind bytes f → number_at bytes 5 ≡ 0
    → IsInForm Unsealed f bytes × (IsInForm Sealed f bytes → ⊥))
    × ((IsFileOfKind bytes f → ⊥) → IsInForm Sealed f bytes → ⊥)
    × IsInForm Json f (123 ∷ 125 ∷ [])
    × IsInForm Json f (codes "fbloom")
    × (IsInForm Json f (codes "fbloom" ++ 0 ∷ 50 ∷ []) → ⊥)
in-form f bytes = (
  λ file is. (
    record { file = file; seal = λ none. omega (arith, is, none) },
    λ form. omega (arith, is, form.seal),
  ),
  λ file is. (record { file = file; seal = is }, λ form. form.seal is),
  λ other form. other form.file,
  λ begins.
      let wrong : 123 ≡ 102 = ap (λ l. get_or l 0 0) begins.cut in omega (arith, wrong),
  λ begins. let more : [] ≡ 0 ∷ begins.rest = ap (drop 6) begins.cut in cc,
  λ is. is (record { rest = 50 ∷ []; cut = refl }),
)

module _ (said : Error) where
  -- no filter is loaded where memory is out, a read fails, or what was read is none or has too many
  -- hashes; and a failed write is no reason
  unloaded : IsUnloaded (codes "a") 64 Memory
      × (HasMessage (Some (codes "a: it can't be read")) said
      → IsUnloaded (codes "a") 64 (Input said))
      × (HasMessage (Some (codes "a: it holds no filter")) said
      → IsUnloaded (codes "a") 64 (Bad said))
      × (HasMessage (Some (hashes_text (codes "a") 65 64)) said
      → IsUnloaded (codes "a") 64 (Bad said))
      × ((many : HasManyHashes (codes "a") 64 said) → many.hashes ≡ 64 → ⊥)
      × (error_message said ≡ codes "no" → IsUnloaded (codes "a") 64 (Input said) → ⊥)
      × (IsUnloaded (codes "a") 64 (Output said) → ⊥)
  unloaded = (
    inl (inl tt),
    λ failed. inl (inr (inl failed)),
    λ none. inl (inr (inr none)),
    λ says. inr (record { hashes = 65; many = omega arith; says = says }),
    λ many is. omega (arith, many.many, is),
    λ told. ⊎_elim
        (⊎_elim (λ memory. memory)
        (⊎_elim (says-other (codes "a: it can't be read") said told (λ same. cc)) (λ none. none)))
        (λ many. many),
    ⊎_elim (⊎_elim (λ memory. memory) (⊎_elim (λ failed. failed) (λ none. none))) (λ many. many),
  )

  module _ (bytes : List ℕ) where
    -- memory may be out with whatever file. A file with a wrong seal holds no filter, and a file
    -- has the hashes that are reported
    right : IsRightWith bytes (codes "a") 64 Memory
        × (refusal_in (layout_given bytes) bytes ≡ Some Seal
        → HasMessage (Some (codes "a: it holds no filter")) said
        → IsRightWith bytes (codes "a") 64 (Bad said))
        × ((f : AnyFilter) → IsInForm Sealed f bytes → (parts_of f).hashes ≡ 65
        → HasMessage (Some (hashes_text (codes "a") 65 64)) said
        → IsRightWith bytes (codes "a") 64 (Bad said))
    right = (
      inl (inl (λ bad. bad)),
      λ refused says. inl (inr ((λ begins. (Seal, refused)), says)),
      λ f is more says. inr (record {
        filter = f;
        form = Sealed;
        is = is;
        many = omega (arith, more);
        says = subst (λ n. HasMessage (Some (hashes_text (codes "a") n 64)) said) (sym more) says;
      }),
    )

    -- of a good file only that is said, and so of a filter that has more than 64 hashes
    right-good : Begins bytes mark_bytes → refusal_in (layout_given bytes) bytes ≡ None
        → IsRightWith bytes (codes "a") 64 (Bad said)
        → (f : AnyFilter) × (form : Form) × IsInForm form f bytes × (64 < (parts_of f).hashes)
    right-good begins good (inl (inl told)) = absurd (told tt)
    right-good begins good (inl (inr none)) =
        let wrong : None ≡ Some (none.0 begins).0 = sym good ∙ (none.0 begins).1 in cc
    right-good begins good (inr many) = (many.filter, many.form, many.is, many.many)
