-- Lists of commands, command by command.
use Rattle.std.proofs.Common.{◌≡◌, ℕ, ◌+◌, ◌<◌, Bool, List, [], ◌∷◌, ◌++◌, length, take, get_or, map, sym, ◌∙◌, ap, subst}
use Rattle.std.proofs.lemmas.List.{map-append, take_more}
use Rattle.bloom_plain.proofs.Common.{Operation, Filter, CarriesOut}
use Rattle.bloom_plain.specs.ListLaws.{carries_out-append}

-- a list that was carried out up to place i is carried out to its next command
pub carries_out-next : {S C : Type 0} (says : C → Operation) (old mid new : Filter S)
    (list : List C) (i : ℕ) (c : C) (r s given : List Bool) → i < length list → c ≡ get_or list i c
    → CarriesOut old (map says (take i list)) mid r → CarriesOut mid (says c ∷ []) new s
    → given ≡ r ++ s → CarriesOut old (map says (take (i + 1) list)) new given
carries_out-next says old mid new list i c r s given within is first second all_given =
    let taken : take (i + 1) list ≡ take i list ++ c ∷ [] =
    take_more list i c within ∙ ap (λ x. take i list ++ x ∷ []) (sym is) in
    let joined : map says (take (i + 1) list) ≡ map says (take i list) ++ says c ∷ [] =
    ap (map says) taken ∙ map-append says (take i list) (c ∷ []) in
    subst (λ l. CarriesOut old l new given) (sym joined)
    (subst (CarriesOut old (map says (take i list) ++ says c ∷ []) new) (sym all_given)
    (carries_out-append old mid new (map says (take i list)) (says c ∷ []) r s first second))
