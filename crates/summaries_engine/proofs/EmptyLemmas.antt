-- Empty filters, as the builders of the library make them.
use Rattle.std.proofs.Common.{◌≡◌, ℕ, replicate, sym, subst, ◌∙◌, ap}
use Rattle.summaries_engine.proofs.Common.{content, HasKey, key_of, content-zeros, DefaultFilter, IsEmpty}
use Rattle.fastbloom.specs.Builders.{Start}
use Rattle.summaries_engine.proofs.FilledLemmas.{Builder}

-- a hasher that has a key has its own
key-self : {k0 k1 : ℕ} (hasher : Builder) → HasKey hasher k0 k1
    → HasKey hasher (key_of hasher).0 (key_of hasher).1
key-self {k0} {k1} hasher is =
    subst (λ low. HasKey hasher low hasher.hasher.high) (sym is.low)
    (subst (λ high. HasKey hasher k0 high) (sym is.high) is)

-- the filter of a builder of zero words under some key is empty
pub empty-zeros : {k0 k1 : ℕ} (n : ℕ) (start : Start Builder) (f : DefaultFilter)
    → start.words ≡ replicate n 0 → HasKey start.hasher k0 k1 → f.words ≡ start.words
    → f.hasher ≡ start.hasher → IsEmpty f
empty-zeros n start f zeros key words hasher = record {
  clear = λ p. ap (λ w. content w p) (words ∙ zeros) ∙ content-zeros n p;
  keyed = subst (λ h. HasKey h (key_of h).0 (key_of h).1) (sym hasher)
      (key-self start.hasher key);
}

-- a filter has the key of what it equals
pub equal-keyed : {k0 k1 : ℕ} {f made : DefaultFilter} → f ≡ made → HasKey made.hasher k0 k1
    → HasKey f.hasher k0 k1
equal-keyed {k0} {k1} is key = subst (λ g. HasKey g.hasher k0 k1) (sym is) key
