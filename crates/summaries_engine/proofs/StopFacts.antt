-- Why a run stops, and what is said of it: cases that hold, and the nearest that don't. The input
-- has the name "k".
use Rattle.std.proofs.Common.{◌≡◌, ℕ, ◌+◌, ◌-◌, ◌^◌, ◌==◌, true, min, if◌then◌else◌, None, inl, inr, List, [], codes, length, get_or, Some, refl, sym, ap, subst, ◌∙◌, arith}
use Rattle.std.proofs.Math.Logic.{⊎_elim}
use Rattle.std.proofs.lemmas.Bool.{and_from, le-leb}
use Rattle.summaries_engine.proofs.Common.{nat_le, Error, Memory, Input, Bad, Output}
use Rattle.std.specs.Fmt.Cut.{EndsInDots}
use Rattle.std.specs.declared.io.ErrorKind.TheVariants as kind
use Rattle.anyhow.specs.Error.{AddsCause, HasMessage, IsMadeOf, error_causes, error_left_out, error_message, keeps_message}
use Rattle.summaries_engine.specs.Stops.{IsBad, IsMemory, IsOutput, IsUnput, IsUnreadAs, IsUnreadable, Says, SaysOver}

-- an error that says "no" says no other text
pub says-other : (text : List ℕ) (said : Error) → error_message said ≡ codes "no"
    → (codes "no" ≡ text → ⊥) → HasMessage (Some text) said → ⊥
says-other text said told other (inl same) = other (sym told ∙ same)
says-other text said told other (inr dots) =
    let ends : EndsInDots 120 (codes "no") = subst (EndsInDots 120) told dots in
    let byte : ◌≡◌ {A = ℕ} 110 46 = ap (λ t. get_or t 0 0) ends in absurd (omega (arith, byte))

module _ (said : Error) where
  -- each stop is of its own kind
  kinds : IsMemory Memory × (IsMemory (Input said) → ⊥)
      × IsBad (λ said. Unit {0}) (Bad said) × (IsBad (λ said. Unit {0}) (Input said) → ⊥)
      × (IsBad (λ said. ⊥) (Bad said) → ⊥)
      × IsOutput (λ said. Unit {0}) (Output said) × (IsOutput (λ said. Unit {0}) Memory → ⊥)
      × (IsOutput (λ said. ⊥) (Output said) → ⊥)
  kinds = (tt, λ is. is, tt, λ is. is, λ is. is, tt, λ is. is, λ is. is)

  -- an error that says a text has no cause, and one that says it over another leaves no cause out
  says : (text : List ℕ)
      → (Says text said → error_causes said ≡ [])
      × (SaysOver text said → error_left_out said ≡ 0)
      × (error_message said ≡ codes "no" → Says (codes "no more") said → ⊥)
      × (error_message said ≡ codes "no" → SaysOver (codes "no more") said → ⊥)
  says text = (
    λ says. says.alone.causes,
    λ over. kept over.2.0 over.2.1 over.2.2,
    λ told says. says-other (codes "no more") said told (λ same. cc) says.message,
    λ told over. says-other (codes "no more") said told (λ same. cc) over.0,
  )
    where
      kept : (old : Error) → IsMadeOf None old → AddsCause old said → error_left_out said ≡ 0
      kept old made adds =
          let fits : keeps_message old ≡ true =
          and_from (error_left_out old == 0)
          (nat_le (length (error_causes old) + 1 + min (length (error_message old)) 16) 120)
          (ap (λ n. n == 0) made.alone.left_out)
          (le-leb (length (error_causes old) + 1 + min (length (error_message old)) 16) 120
          (omega (arith, ap length made.alone.causes))) in
          adds.left_out ∙ ap (λ b. if b then 0 else min (error_left_out old + 1) (2 ^ 64 - 1)) fits

  -- a failed read is out of memory or names its input, and neither bad nor a failed write
  unreadable : IsUnreadable (codes "k") Memory
      × (SaysOver (codes "k: it can't be read") said → IsUnreadable (codes "k") (Input said))
      × (error_message said ≡ codes "no" → IsUnreadable (codes "k") (Input said) → ⊥)
      × (IsUnreadable (codes "k") (Bad said) → ⊥)
      × (IsUnreadable (codes "k") (Output said) → ⊥)
  unreadable = (
    inl tt,
    λ over. inr over,
    λ told. ⊎_elim (λ memory. memory)
        (λ over. says-other (codes "k: it can't be read") said told (λ same. cc) over.0),
    ⊎_elim (λ memory. memory) (λ over. over),
    ⊎_elim (λ memory. memory) (λ over. over),
  )

  -- exactly a read for which there was no memory is reported as memory
  unread-as : IsUnreadAs kind.OutOfMemory (codes "k") Memory
      × (IsUnreadAs kind.BrokenPipe (codes "k") Memory → ⊥)
      × (SaysOver (codes "k: it can't be read") said
      → IsUnreadAs kind.BrokenPipe (codes "k") (Input said))
      × (IsUnreadAs kind.OutOfMemory (codes "k") (Input said) → ⊥)
  unread-as = (
    record { memory = λ is. tt; other = λ no. absurd (no refl) },
    λ told. told.other (λ is. cc),
    λ over. record { memory = λ is. cc; other = λ no. over },
    λ told. told.memory refl,
  )

  -- where a filter isn't written, memory was out or a write failed, which is said of the filter
  unput : IsUnput Memory
      × (SaysOver (codes "the filter can't be written") said → IsUnput (Output said))
      × (error_message said ≡ codes "no" → IsUnput (Output said) → ⊥)
      × (IsUnput (Input said) → ⊥)
  unput = (
    inl tt,
    λ over. inr over,
    λ told. ⊎_elim (λ memory. memory)
        (λ over. says-other (codes "the filter can't be written") said told (λ same. cc) over.0),
    ⊎_elim (λ memory. memory) (λ over. over),
  )
