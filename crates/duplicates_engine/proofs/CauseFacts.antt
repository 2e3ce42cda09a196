-- Why a run ended early: of each relation cases that hold, and the nearest that don't.
use Rattle.std.proofs.Common.{◌≡◌, ℕ, suc, List, [], ◌∷◌, ◌++◌, length, get_or, Some, refl, sym, ◌∙◌, ap, subst, arith}
use Rattle.duplicates_engine.proofs.Common.{codes, ErrorKind, lines_by, Fault, TooLong, Memory, Full, Open, Input, Output, lines_in}
use Rattle.std.specs.declared.io.ErrorKind.TheVariants as kind
use Rattle.bloom_parts.specs.declared.error.FilterError.TheVariants as filter
use Rattle.bloom_growing.specs.declared.growing.error.GrowingError.{GrowingError}
use Rattle.bloom_growing.specs.declared.growing.error.GrowingError.TheVariants.{RateOverflow, Filter}
use Rattle.duplicates_engine.specs.Causes.{TellsRead, TellsOpen, TellsWrite, TellsRefusal, IsCaused}
use Rattle.duplicates_engine.proofs.Cases.{HoldsOfNone}

-- a read that failed is told with its kind, or as out of memory where that is its kind, and as
-- nothing else
read : TellsRead kind.BrokenPipe (Input kind.BrokenPipe)
    × HoldsOfNone (TellsRead kind.BrokenPipe) (Input kind.NotFound ∷ Memory ∷ TooLong 1 ∷ Full
    ∷ Open kind.BrokenPipe ∷ Output kind.BrokenPipe ∷ [])
    × TellsRead kind.OutOfMemory Memory
    × (TellsRead kind.OutOfMemory (Input kind.OutOfMemory) → ⊥)
read = (
  (refl, λ is. cc),
  (λ is. cc (is.0), (λ is. cc is, (λ is. is, (λ is. is, (λ is. is, (λ is. is, tt)))))),
  refl,
  λ is. is.1 refl,
)

-- the same of an open
opened : TellsOpen kind.NotFound (Open kind.NotFound)
    × HoldsOfNone (TellsOpen kind.NotFound) (Open kind.PermissionDenied ∷ Memory ∷ TooLong 1 ∷ Full
    ∷ Input kind.NotFound ∷ Output kind.NotFound ∷ [])
    × TellsOpen kind.OutOfMemory Memory
    × (TellsOpen kind.OutOfMemory (Open kind.OutOfMemory) → ⊥)
opened = (
  (refl, λ is. cc),
  (λ is. cc (is.0), (λ is. cc is, (λ is. is, (λ is. is, (λ is. is, (λ is. is, tt)))))),
  refl,
  λ is. is.1 refl,
)

-- a write is never out of memory
write : TellsWrite kind.OutOfMemory (Output kind.OutOfMemory)
    × HoldsOfNone (TellsWrite kind.OutOfMemory) (Output kind.WriteZero ∷ Memory ∷ TooLong 1 ∷ Full
    ∷ Open kind.OutOfMemory ∷ Input kind.OutOfMemory ∷ [])
write = (refl, (λ is. cc is, (λ is. is, (λ is. is, (λ is. is, (λ is. is, (λ is. is, tt)))))))

-- a refusal is told as a sieve that is full, or that is out of memory
refusal : TellsRefusal (Filter filter.SizeOverflow) Full
    × HoldsOfNone (TellsRefusal (Filter filter.SizeOverflow)) (Memory ∷ TooLong 1
    ∷ Open kind.NotFound ∷ Input kind.NotFound ∷ Output kind.NotFound ∷ [])
    × TellsRefusal (Filter filter.Memory) Memory
    × (TellsRefusal (Filter filter.Memory) Full → ⊥)
refusal = (
  λ is. cc,
  (λ is. cc is, (λ is. is, (λ is. is, (λ is. is, (λ is. is, tt))))),
  refl,
  λ is. is refl,
)

-- a sieve that refuses `b`, and inputs whose open finds nothing
abbrev refuses : Unit {0} → List ℕ → GrowingError → Type 0
refuses sieve line error = (line ≡ codes "b") × (error ≡ RateOverflow)

abbrev fails : Unit {0} → Unit {0} → ErrorKind → Type 0
fails old new is = is ≡ kind.NotFound

-- why a run ended behind these lines of two inputs, where a line may have so many bytes
abbrev Caused : ℕ → List (List ℕ) → Fault → Type 0
Caused longest lines fault =
    IsCaused refuses fails 10 longest (Some (codes "a\nb\n" ∷ codes "c" ∷ [])) lines tt tt fault

-- the sieve is full at `b`, which it refuses: not at `c`, nor where `b` is longer than a line may
-- be
full : Caused 1 (codes "a" ∷ []) Full
    × (Caused 1 (codes "a" ∷ codes "b" ∷ []) Full → ⊥)
    × (Caused 0 (codes "a" ∷ []) Full → ⊥)
unfolding lines_by
full = (
  record {
    line = codes "b";
    next = record { later = codes "c" ∷ []; cut = refl };
    short = omega arith;
    refusal = record { error = RateOverflow; refused = (refl, refl); told = λ is. cc };
  },
  λ is. (let line : codes "c" ≡ is.line = ap (λ l. get_or l 2 []) is.next.cut in
      omega (arith, ap (λ l. get_or l 0 0) (line ∙ is.refusal.refused.0))),
  λ is. omega (arith, ap length is.refusal.refused.0, is.short),
)

-- these aren't all lines of whole inputs
within-input : (done rest : List (List ℕ)) → codes "a\nb\n" ∷ codes "c" ∷ [] ≡ done ++ rest
    → lines_in 10 done ≡ codes "a" ∷ [] → ⊥
unfolding lines_by
within-input [] rest cut are = let none : 0 ≡ 1 = ap length are in omega (arith, none)
within-input (bytes ∷ done) rest cut are =
    let first : codes "a\nb\n" ≡ bytes = ap (λ l. get_or l 0 []) cut in
    let two = subst (λ b. lines_in 10 (b ∷ done) ≡ codes "a" ∷ []) (sym first) are in
    let more : suc (suc (length (lines_in 10 done))) ≡ 1 = ap length two in
    omega (arith, more)

-- an open fails behind the first input, with its kind, and not within it
opens : Caused 1 (codes "a" ∷ codes "b" ∷ []) (Open kind.NotFound)
    × (Caused 1 (codes "a" ∷ codes "b" ∷ []) (Open kind.PermissionDenied) → ⊥)
    × (Caused 1 (codes "a" ∷ []) (Open kind.NotFound) → ⊥)
unfolding lines_by
opens = (
  record {
    old = tt;
    opening = record { kind = kind.NotFound; failed = refl; told = (refl, λ is. cc) };
    behind = record {
      done = codes "a\nb\n" ∷ [];
      rest = codes "c" ∷ [];
      cut = refl;
      are_lines = refl;
    };
  },
  λ is. cc (is.opening.told.0 ∙ is.opening.failed),
  λ is. within-input is.behind.done is.behind.rest is.behind.cut is.behind.are_lines,
)

-- a read may fail at any line, and not for want of memory
reads : Caused 1 [] (Input kind.BrokenPipe) × (Caused 1 [] (Input kind.OutOfMemory) → ⊥)
reads = (λ is. cc, λ is. is refl)
