-- One step on a word among words that lie for good. Assumes `Logic`.
use Rattle.atomic_table.proofs.Names.{◌≡◌, ℕ, ◌+◌, ◌*◌, ◌<◌, List, [], ◌∷◌, length, refl, sym, ◌∙◌, subst, Ura, Logic, sem, Ptr, block_ptr, block_of, count_of, nothing}
use Rattle.std.proofs.Common.{get_or, set}
use mathlib.Core.List.{Mem, not-mem-nil}
use lib.ListN.{length-set}
use base.Logic.{SProp, ent, sep, wand, ex, all, guard, upd, apply∗, ex_i, all_e, upd_i}
use base.Fml.{Fml, ftrue, fsep, finv, fnamed}
use contract.Monad.{fact as known}
use types.Kit.{‵, raw, ◌⊛◌, some, ◌$◌, ◌∵◌, !, qed, keep, drop, split, fsplit, fjoin, fpick, fpack, pick, show, check, frame, each, assume, suffices, done, use1, use2}
use Rattle.core.specs.Sync.RawAtomic.{Shift, rests, enters, leaves, along, if_none, back, found, asks, always}
use Rattle.atomic_table.specs.Seated.{word, row, fact}
use Rattle.atomic_table.proofs.Roster.{row_at, Reset}
use Rattle.fastbloom_c.specs.Passed.{rows, Reaches, words_lie}

module _ {M : Type 1} {𝓤 : Ura M} (𝓛 : Logic 𝓤) (p : Ptr) (n : ℕ) where
  open 𝓛 use {A}

  abbrev ⟦◌⟧ : Fml → SProp 𝓤
  ⟦ P ⟧ = sem 𝓛 P

  abbrev I : Fml
  I = rows p n

  pub lie_twice : ent 𝓤 ⟦ words_lie p n ⟧ (sep 𝓤 ⟦ words_lie p n ⟧ ⟦ words_lie p n ⟧)
  lie_twice = qed 𝓛 (‵ (words_lie p n) ∷ []) ∵ fsplit ! $ fpick ! (λ at. drop ! $
      use1 𝓛 (‵ (finv I) ⊛ ‵ (finv I)) (𝓛.invs.inv_dup I) $ split ! $
      nothing ! $ fpack ! (Reaches p n) (λ _. ftrue) at $ fjoin ! $ frame ! $ nothing ! $
      fpack ! (Reaches p n) (λ _. ftrue) at $ done !)

  pub reached : ent 𝓤 ⟦ words_lie p n ⟧ (known 𝓤 (Reaches p n))
  reached = qed 𝓛 (‵ (words_lie p n) ∷ []) ∵ fsplit ! $ keep ! (0 ∷ []) $ done !

  -- the word i becomes f of what it was, whatever it was
  pub steps : (i : ℕ) (f : ℕ → ℕ) → i < n → ent 𝓤 ⟦ words_lie p n ⟧
      (asks 𝓛 (block_ptr (block_of p) (i * 8 + count_of p)) f always (λ _. ftrue))
  steps i f inside =
      let b : ℕ = block_of p in let o : ℕ = count_of p in let e : ℕ = i * 8 + o in
      let after : ℕ → Fml = λ _. ftrue in
      let K : List (ℕ × Fml) → SProp 𝓤 = λ l. ex 𝓤 (found 𝓛 l b e f always after) in
      qed 𝓛 (‵ (words_lie p n) ∷ []) ∵ fsplit ! $ drop ! $ use1 𝓛 (some (λ (j : ℕ). ‵ (fnamed j
      I))) (𝓛.invs.inv_named I) $ pick ! (λ j. let L : List (ℕ × Fml) = (j, I) ∷ [] in
      let F : SProp 𝓤 = K L in
      suffices ! _ (ex_i 𝓤 (λ (s : Shift). along 𝓛 s K []) (enters j I rests)) $
      suffices ! _ (upd_i 𝓤 (guard 𝓤 (¬ Mem j []) (sep 𝓤 (A.named j I) (wand 𝓤 ⟦ I ⟧ (upd 𝓤 F))))) $
      check ! (λ m. not-mem-nil m) $ frame ! $ assume ! (‵ I) $
      suffices ! _ (upd_i 𝓤 F) $ fpick ! (λ ns. fsplit ! $ fpick ! (λ long. drop ! $
      let m : ℕ = get_or ns i 0 in
      use1 𝓛 (‵ (word b e m) ⊛ raw (all 𝓤 (Reset 𝓛 b o e ns i))) (row_at 𝓛 b o e ns i (subst (λ (k
      : ℕ). i < k) (sym long) inside) refl) $ split ! $
      show ! (found 𝓛 L b e f always after) m $ frame ! $ each ! (λ (_ : Unit {0}). back 𝓛 L b e f
      after m) (λ _.
      use1 𝓛 (raw (Reset 𝓛 b o e ns i (f m))) (all_e 𝓤 (Reset 𝓛 b o e ns i) (f m)) $
      assume ! (‵ (word b e (f m))) $ use2 𝓛 (‵ (row b o (set ns i (f m)))) (apply∗ 𝓤 ⟦ word b e
      (f m) ⟧ ⟦ row b o (set ns i (f m)) ⟧) $
      suffices ! _ (ex_i 𝓤 (λ (s : Shift). along 𝓛 s (if_none 𝓛 ⟦ ftrue ⟧) L) (leaves rests)) $
      suffices ! _ (upd_i 𝓤 (sep 𝓤 ⟦ I ⟧ (upd 𝓤 ⟦ ftrue ⟧))) $
      nothing ! $ fpack ! (length (set ns i (f m)) ≡ n) (λ _. ftrue) (length-set ns i (f m) ∙
      long) $ fjoin ! $ fpack ! (List ℕ) (λ ms. fsep (fact (length ms ≡ n)) (row b o ms)) (set ns
      i (f m)) $ frame ! $
      suffices ! _ (upd_i 𝓤 ⟦ ftrue ⟧) $ nothing ! $ done !))))
