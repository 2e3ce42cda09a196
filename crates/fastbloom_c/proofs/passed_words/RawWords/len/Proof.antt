use Rattle.atomic_table.proofs.Names.{◌≡◌, ℕ, ◌^◌, ◌<◌, List, [], ◌∷◌, refl, w64, named, Val, vint, vptr, SProp, ftrue, flft, ‵, raw, ◌⊛◌, ◌$◌, ◌∵◌, !, qed, by, move, keep, split, join, fsplit, fjoin, feq_i, flt_i, stop, fld, load, of_opd, returns, enter, alloc_all, pass_all, free_all, look_at, through, sets, env, sub, whole, look_in, tables, yes, RattleType, owns, types_at, plain, Ptr, nothing, Stays, stay_dropped, walk_of, Goes-dropped, fact, RefOf, shr_vals, shr_Tells, use0, fact_i}
use Rattle.atomic_table.proofs.Walks.{proved, leaves}
use Rattle.fastbloom_c.specs.contracts.passed_words.RawWords as C
use Rattle.fastbloom_c.proofs.Fields.{opens_words, closes_words}
use Rattle.fastbloom_c.specs.contracts.passed_words.RawWords.len.{ended, clauses}
use Rattle.fastbloom_c.specs.contracts.passed_words.RawWords.len.Key.{name as #self}
use Rattle.fastbloom_c.proofs.passed_words.RawWords.len.Statement.{statement}
use Rattle.fastbloom_c.proofs.passed_words.RawWords.len.Code as code

pub len_spec : {M : Type 1} → statement M
len_spec 𝓤 𝓛 𝓜 𝓡 wired =
    let H = 𝓛.H in let 𝓣 = tables 𝓤 H 𝓜 𝓡 𝓡.env in let En = ended in let fn = code.function in
    let Row : RattleType = C.the_row in
    let self = RefOf (0 ∷ []) tt (plain (λ _. Row)) (λ _. tt) in
    let hs : Stays En.signature.params En.kept = (stay_dropped self yes, tt) in
    let c = clauses 𝓛 𝓜.mem 𝓡.returns in
    proved 𝓛 En hs c 𝓜 𝓡 (Goes-dropped 𝓛 1 self yes (λ κs x f. refl), tt) #self fn (code.unfolded
    𝓤 H 𝓜 𝓡 wired)
    (λ κs. (shr_vals, tt)) (λ κs. (shr_Tells (named 0) κs.0 Row, tt)) (λ κs qs bounds a gh are.
    let b : ℕ = a.0.ref_ptr.0 in let o : ℕ = a.0.ref_ptr.1 in
    let t : Row.Denot = a.0.now in let p : Ptr = t.at in let n : ℕ = t.len in
    let y : (walk_of 𝓛 En hs c).Ghost = ((κs, qs, bounds, a, (vptr b o ∷ [], tt)), gh) in
    let Post : Val → SProp 𝓤 = (walk_of 𝓛 En hs c).post y in
    qed 𝓛 (((‵ (flft κs.0 qs.0) ⊛ ‵ ftrue) ⊛ ‵ (owns (types_at En.signature.params κs) a y.0.4)) ∷
    raw ((c κs a).requires gh) ∷ []) ∵
    split ! $ split ! $ move ! (2 ∷ []) $ fsplit ! $ fsplit ! $ keep ! (1 ∷ 3 ∷ 4 ∷ []) $
    enter ! 𝓣.C 𝓣.Λ fn (vptr b o ∷ []) Post $ alloc_all ! (λ l. pass_all ! refl ((tt, tt), tt) $
    let Ev = env fn.locals l in
    opens_words ! tt t b o (λ at q' vs fields. let small : n < 2 ^ 64 = fields.1.1.1.0.1 in
    sets ! (of_opd ! (load ! (through ! refl (fld ! refl (stop !))) (look_in ! 1 (sub ! 1 refl
    (whole !))))) refl (tt, record { fits = small }) $
    closes_words ! tt t b o fields $
    move ! (0 ∷ 3 ∷ []) $ join ! $ nothing ! $ nothing ! $ fjoin ! $
    flt_i ! n (2 ^ 64) small $ feq_i ! (List Val) (vint w64 n ∷ []) (vint w64 n ∷ []) refl $
    fjoin ! $
    use0 𝓛 (raw (fact 𝓤 (n ≡ n))) (fact_i 𝓤 (n ≡ n) (base.Logic.emp 𝓤) refl) $
    returns ! (look_at ! 0 refl) $ free_all ! refl $ keep ! (3 ∷ 2 ∷ 1 ∷ 0 ∷ []) $
    by ! (leaves 𝓛 En hs c y (vint w64 n) n (tt, tt) (tt, tt)))))
