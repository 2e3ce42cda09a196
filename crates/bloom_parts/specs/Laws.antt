-- Laws of the hasher, over what the contracts of `write` and `finish` state.
use Rattle.std.specs.Prelude.{◌≡◌, ℕ, List, [], ◌∷◌, fold}
use Rattle.std.specs.List.{concat}
use Rattle.bloom_parts.specs.Hashed.{SipState, write, finish, Hashed, Takes, Answers}
use Rattle.bloom_parts.specs.Sip.{sip}

-- from old to new a hasher has taken in these pieces, one after the other
abbrev pub TakesEach : SipState → SipState → List (List ℕ) → Type 0
TakesEach old new [] = old ≡ new
TakesEach old new (piece ∷ pieces) =
    (between : SipState) × Takes old between piece × TakesEach between new pieces

-- a fresh hasher that was given these pieces returns this hash
pub record HashesPieces (k0 k1 : ℕ) (pieces : List (List ℕ)) (hash : ℕ) : Type 0 where
  pub fresh : SipState
  pub last : SipState
  pub begins : Hashed fresh k0 k1 []
  pub taken : TakesEach fresh last pieces
  pub answers : Answers last hash

-- how the bytes are split doesn't matter: the same bytes under the same key have one hash
abbrev pub CuttingLaw : Type 0
CuttingLaw = (k0 k1 : ℕ) (pieces others : List (List ℕ)) (hash other : ℕ)
    → HashesPieces k0 k1 pieces hash → HashesPieces k0 k1 others other
    → concat pieces ≡ concat others → hash ≡ other

-- a fresh hasher, given pieces one after the other, returns SipHash of them joined
abbrev pub JoiningLaw : Type 0
JoiningLaw = (fresh : SipState) (k0 k1 : ℕ) (pieces : List (List ℕ)) → Hashed fresh k0 k1 []
    → finish (fold write fresh pieces) ≡ sip k0 k1 (concat pieces)
