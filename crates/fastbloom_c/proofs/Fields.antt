-- The machine values of shared words, and how a walk reads them through a `&`. Assumes `Logic`.
use Rattle.atomic_table.proofs.Names.{◌≡◌, ℕ, List, [], ◌∷◌, ◌++◌, refl, sym, ap, ◌∙◌, w64, Val, vint, vstruct, vcons, vnil, of_list, RattleType, Ptr, ptr_val, block_ptr, Is, Ura, Logic, Lft, Share, flft, sem, ‵, ◌⊛◌, given, fact_use, guard_i, shows, cell_at, part_at, hidden_shr, lent_out, split, move, unhide, learn, looks, peeks, shuts, rewrite, use1, ◌$◌}
use types.Kit.{Goal, Item, Seq, Soaks, Step, step}
use denote.Opens.{Opens, Shut}
use denote.Struct.Struct.{Struct}
use denote.Struct.Owning.{shape}
use denote.Struct.Laws.{RawPtr-copy, usize-copy}
use denote.Copied.{Struct-Copied}
use Rattle.fastbloom_c.specs.Passed.{Reaches, words_lie}
use Rattle.fastbloom_c.specs.contracts.passed_words.RawWords as C
use Rattle.fastbloom_c.proofs.Steps.{reached}

abbrev pub words_of : Ptr → ℕ → Val
words_of p n = vstruct (vcons (ptr_val p) (vcons (vint w64 n) vnil))

abbrev pub Data : RattleType
Data = Struct (shape C.the_type)

pub words_known : (p : Ptr) (n : ℕ) (vs : List Val) → Is Data (p, (n, tt)) vs → vs ≡ words_of p n ∷
    []
words_known p n vs is = is.1.0 ∙ ap (λ (ws : List Val). vstruct (of_list (ws ++ (is.0.1.0 ++ [])))
    ∷ []) is.1.1.0 ∙ ap (λ (ws : List Val). vstruct (of_list (ptr_val p ∷ (ws ++ []))) ∷ [])
    is.1.1.1.0.0

pub words_open : {M : Type 1} {𝓤 : Ura M} (𝓛 : Logic 𝓤) → Opens 𝓛 Data
words_open {M} {𝓤 = 𝓤} 𝓛 = (Struct-Copied 𝓛 (shape C.the_type) (refl, (refl, tt))
    (RawPtr-copy.copied M 𝓤 𝓛, (usize-copy.copied M 𝓤 𝓛, tt))).opens

module _ {M : Type 1} {𝓤 : Ura M} {𝓛 : Logic 𝓤} {K : Type 0} {Γ : List (Item 𝓤)}
    {G : Goal 𝓤 𝓛.H} {κ : Lft} {q : Share} where
  -- a borrow of words gives their fields, and what C promised of the words themselves
  pub opens_words : K → Soaks G → (t : C.the_row.Denot) (b o : ℕ)
      → (Reaches t.at t.len → (q' : Share) (vs : List Val) → Is Data (t.at, (t.len, tt)) vs
      → Seq K 𝓛 (‵ (Data.own_val (t.at, (t.len, tt)) vs)
      ∷ ‵ (cell_at q' Data.mir (words_of t.at t.len ∷ []) b o)
      ∷ Shut 𝓛 κ q (part_at Data q' (t.at, (t.len, tt)) b o)
      ∷ ‵ (hidden_shr Data κ (t.at, (t.len, tt)) b o) ∷ ‵ (words_lie t.at t.len) ∷ Γ) G)
      → Seq K 𝓛 (‵ (hidden_shr C.the_row κ t b o) ∷ ‵ (flft κ q) ∷ Γ) G
  opens_words z soaks t b o k =
      let p = t.at in let n = t.len in let F = words_lie p n in
      use1 𝓛 (‵ (hidden_shr Data κ (p, (n, tt)) b o)
      ⊛ ‵ (base.Fml.fhide (C.the_lent t (block_ptr b o) κ)))
      (lent_out 𝓛 C.struct C.the_codes C.the_heap C.the_lent κ t b o) $
      split z $ move z (1 ∷ []) $ unhide z $
      use1 𝓛 (given (Reaches p n) (‵ F))
      (fact_use 𝓤 _ (reached 𝓛 p n) (guard_i 𝓤 (Reaches p n) (sem 𝓛 F))) $
      learn z (λ at. move z (1 ∷ 2 ∷ []) $
      looks z soaks Data (words_open 𝓛) (p, (n, tt)) b o (λ q' vs. move z (1 ∷ []) $
      peeks z Data (Is Data) (shows 𝓛 Data) (p, (n, tt)) vs (λ is.
      rewrite z 1 (λ (ws : List Val). ‵ (cell_at q' Data.mir ws b o)) (words_known p n vs is) refl $
      k at q' vs is)))

  -- the fields are given back for the borrow's token
  pub closes_words : K → Soaks G → (t : C.the_row.Denot) (b o : ℕ) {q' : Share} {vs : List Val}
      → Is Data (t.at, (t.len, tt)) vs
      → Step K 𝓛 (‵ (flft κ q) ∷ Γ) G (‵ (Data.own_val (t.at, (t.len, tt)) vs)
      ∷ ‵ (cell_at q' Data.mir (words_of t.at t.len ∷ []) b o)
      ∷ Shut 𝓛 κ q (part_at Data q' (t.at, (t.len, tt)) b o) ∷ Γ) G
  closes_words z soaks t b o {q'} {vs} is = step (λ s.
      rewrite z 1 (λ (ws : List Val). ‵ (cell_at q' Data.mir ws b o))
      (sym (words_known t.at t.len vs is)) refl $
      move z (1 ∷ 0 ∷ 2 ∷ []) $ shuts z soaks Data q' (t.at, (t.len, tt)) vs b o $ s)
