-- Two lists of deciders, one after the other.
use Rattle.std.proofs.Common.{◌≡◌, ◌++◌, ◌∷◌, [], ℕ, Bool, List, None, Option, Some, ap, refl, sym, unwrap_or, ◌∙◌}
use Rattle.std.specs.Option.{option_or}
use Rattle.bloom_parts.specs.Deciders.{Decider, last_decision, state}

-- three decisions come to one, whichever two are joined first
pub option_or-assoc : {X : Type 0} (a b c : Option X)
    → option_or (option_or a b) c ≡ option_or a (option_or b c)
option_or-assoc None b c = refl
option_or-assoc (Some x) b c = refl

-- no decision behind one changes nothing
option_or-none : {X : Type 0} (a : Option X) → option_or a None ≡ a
option_or-none None = refl
option_or-none (Some x) = refl

-- a decision is carried out on what an earlier one made
pub unwrap_or-option_or : {X : Type 0} (a b : Option X) (x : X)
    → unwrap_or (option_or a b) x ≡ unwrap_or a (unwrap_or b x)
unwrap_or-option_or None b x = refl
unwrap_or-option_or (Some y) b x = refl

-- the later of two lists decides first
pub last_decision-append : (ds es : List Decider) (p : ℕ)
    → last_decision (ds ++ es) p ≡ option_or (last_decision es p) (last_decision ds p)
last_decision-append [] es p = sym (option_or-none (last_decision es p))
last_decision-append (d ∷ ds) es p =
    ap (λ o. option_or o (d p)) (last_decision-append ds es p)
    ∙ option_or-assoc (last_decision es p) (last_decision ds p) (d p)

-- the set after both is what the later list makes of the set after the earlier
pub state-append : (A : ℕ → Bool) (ds es : List Decider) (p : ℕ)
    → state A (ds ++ es) p ≡ state (state A ds) es p
state-append A ds es p =
    ap (λ o. unwrap_or o (A p)) (last_decision-append ds es p)
    ∙ unwrap_or-option_or (last_decision es p) (last_decision ds p) (A p)
