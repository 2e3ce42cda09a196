-- Lines that wait, of which the lengths and hashes are known.
use Rattle.std.proofs.Common.{◌≡◌, ℕ, ◌+◌, ◌-◌, ◌^◌, min, List, [], ◌∷◌, ◌++◌, length, take, drop, Option, Some, None, refl, sym, ◌∙◌, ap, subst, arith}
use Rattle.std.specs.Prelude.{MatchOption, IfSome}
use Rattle.std.proofs.lemmas.List.{drop-drop, length-drop, take_all}
use Rattle.duplicates_engine.proofs.Common.{prepend_known, TakesNext, IsLookedAt, AreLookedAtUpTo, AreLookedAt}
use Rattle.lines.specs.Reading.{CutsLineBy, TakesShortBy}
use Rattle.lines.proofs.WholeLemmas.{takes-whole}
use Rattle.duplicates_engine.specs.declared.ahead.Looked.{Looked}

module _ (has_hash : List ℕ → ℕ → Type 0) (end longest : ℕ) where
  -- one more line was looked at
  pub looked-more : (bytes rest : List ℕ) (found : List Looked) (one : Looked)
      → AreLookedAtUpTo has_hash end longest bytes rest found
      → IsLookedAt has_hash end longest rest one
      → AreLookedAtUpTo has_hash end longest bytes (drop (one.length + 1) rest)
      (found ++ one ∷ [])
  looked-more bytes rest [] one found is = (
    subst (λ b. IsLookedAt has_hash end longest b one) found is,
    ap (drop (one.length + 1)) found,
  )
  looked-more bytes rest (first ∷ later) one found is = (
    found.0,
    looked-more (drop (first.length + 1) bytes) rest later one found.1 is,
  )

  -- no line was looked at
  pub looked-none : (bytes : List ℕ) (none : List Looked) → none ≡ []
      → AreLookedAt has_hash end longest bytes none
  looked-none bytes none is =
      subst (AreLookedAt has_hash end longest bytes) (sym is) (bytes, refl)

  -- what is known of the next line, where a line may have as many bytes by another name
  pub looked-same : {limit : ℕ} {given : List ℕ} (next : Option Looked) (bytes : List ℕ)
      (later : List Looked) → limit ≡ longest → given ≡ bytes
      → MatchOption next (later ≡ []) (λ l. AreLookedAt has_hash end limit given (l ∷ later))
      → MatchOption next (later ≡ []) (λ l. AreLookedAt has_hash end longest bytes (l ∷ later))
  looked-same {limit} next bytes later same is found =
      subst (λ n. MatchOption next (later ≡ [])
      (λ l. AreLookedAt has_hash end n bytes (l ∷ later)))
      same
      (subst (λ b. MatchOption next (later ≡ [])
      (λ l. AreLookedAt has_hash end limit b (l ∷ later)))
      is found)

  -- a line that was looked at is taken, so behind an open none is left of those
  pub looked-opened : (T : Looked → Type 0) (next : Option Looked) (bytes other : List ℕ)
      (later : List Looked)
      → MatchOption next (later ≡ [])
      (λ l. AreLookedAt has_hash end longest bytes (l ∷ later))
      → IfSome next T → ((l : Looked) → T l → ⊥) → AreLookedAt has_hash end longest other later
  looked-opened T None bytes other later found is never = looked-none other later found
  looked-opened T (Some l) bytes other later found is never = absurd (never l is)

module _ (had has : List ℕ → ℕ → Type 0) (end longest : ℕ)
    (keeps : (line : List ℕ) (hash : ℕ) → had line hash → has line hash) where
  -- each line that was looked at keeps its hash
  keeps-each : (bytes rest : List ℕ) (found : List Looked)
      → AreLookedAtUpTo had end longest bytes rest found
      → AreLookedAtUpTo has end longest bytes rest found
  keeps-each bytes rest [] found = found
  keeps-each bytes rest (l ∷ later) found = (
    record {
      ends = found.0.ends;
      short = found.0.short;
      hashed = keeps (take l.length bytes) l.hash found.0.hashed;
    },
    keeps-each (drop (l.length + 1) bytes) rest later found.1,
  )

  -- the next line was taken, and sifted
  pub looked-next : (T : Looked → Type 0) (next : Option Looked) (bytes rest line : List ℕ)
      (later : List Looked)
      → MatchOption next (later ≡ []) (λ l. AreLookedAt had end longest bytes (l ∷ later))
      → IfSome next (λ l. T l × CutsLineBy end longest bytes rest line l.length)
      → AreLookedAt has end longest rest later
  looked-next T None bytes rest line later found cut = looked-none has end longest rest later found
  looked-next T (Some l) bytes rest line later found cut =
      let behind : AreLookedAtUpTo had end longest rest found.0 later =
      subst (λ b. AreLookedAtUpTo had end longest b found.0 later) (sym cut.1.is_rest) found.1.1 in
      (found.0, keeps-each rest found.0 later behind)

-- the bytes behind the end of a line
pub behind-end : (n : ℕ) (bytes others : List ℕ) → others ≡ drop n bytes
    → take (length others - 1) (drop 1 others) ≡ drop (n + 1) bytes
behind-end n bytes others is =
    take_all (length others - 1) (drop 1 others) (omega (arith, length-drop 1 others))
    ∙ ap (drop 1) is ∙ drop-drop 1 n bytes

-- a step took a line that waits whole
pub takes-waiting : {end longest limit n number next : ℕ} {bytes rest line : List ℕ}
    (left : Option (List ℕ)) (coming : Option (List (List ℕ))) → longest ≡ limit
    → CutsLineBy end longest bytes rest line n → next ≡ min (number + 1) (2 ^ 64 - 1)
    → TakesNext end limit (prepend_known bytes left) (prepend_known rest left) coming coming number
    next line
takes-waiting {end} {longest} {limit} {n} {number} {next} {bytes} {rest} {line} left coming same
    cut counts
    = record {
      takes =
          subst (λ k. TakesShortBy end k (prepend_known bytes left) (prepend_known rest left) line)
          same (takes-whole left cut);
      same = refl;
      counts = counts;
    }
