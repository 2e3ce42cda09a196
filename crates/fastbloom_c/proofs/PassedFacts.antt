-- Where words lie that C passes: a case that holds, and one that doesn't. Assumes `Logic`.
use Rattle.atomic_table.proofs.Names.{◌^◌, [], ◌∷◌, arith, lit<, Ura, Logic, sem, Ptr, nothing}
use base.Logic.{SProp, ent}
use base.Fml.{ftrue, finv}
use types.Kit.{‵, ◌$◌, ◌∵◌, !, qed, fsplit, fjoin, fpick, fpack, done}
use Rattle.fastbloom_c.specs.Passed.{Reaches, rows, words_lie}

-- no words lie at any pointer, where their invariant holds; 2^60 words lie nowhere, so all follows
-- from them
words-lie : {M : Type 1} {𝓤 : Ura M} (𝓛 : Logic 𝓤) (p : Ptr)
    → ent 𝓤 (sem 𝓛 (finv (rows p 0))) (sem 𝓛 (words_lie p 0))
    × ((all : SProp 𝓤) → ent 𝓤 (sem 𝓛 (words_lie p (2 ^ 60))) all)
words-lie {𝓤 = 𝓤} 𝓛 p = (
  qed 𝓛 (‵ (finv (rows p 0)) ∷ []) ∵ nothing ! $
      fpack ! (Reaches p 0) (λ _. ftrue) ((λ some. absurd (omega (arith, some))), lit< tt) $
      fjoin ! $ done !,
  λ all. qed 𝓛 (‵ (words_lie p (2 ^ 60)) ∷ []) ∵ fsplit ! $
      fpick ! (λ at. absurd (omega (arith, at.1))),
)
