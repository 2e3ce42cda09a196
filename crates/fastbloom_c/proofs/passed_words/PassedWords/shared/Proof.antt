-- `shared` hands on what C promised.
use Rattle.atomic_table.proofs.Names.{◌≡◌, ℕ, ◌<◌, ◌^◌, List, [], ◌∷◌, refl, sym, subst, w64, Val, vint, SProp, ent, emp, id⊢, ftrue, WpFn, ‵, raw, ◌⊛◌, ◌$◌, ◌∵◌, !, qed, by, move, keep, drop, split, join, fsplit, fjoin, fpack, suffices, feq_i, flt_i, stop, fld, of_opd, no_more, and_then, returns, enter, alloc_all, pass_all, free_all, look_at, get, get_in, sets, agg, sub, whole, fact, tables, yes, Valss, owns, RawPtr, usize, Is, shows, types_at, plain, Ptr, ptr_val, nothing, peeks, Stays, stay_dropped, walk_of, Goes-dropped, ◌++◌, use0, fact_i}
use denote.Laws.{Typed}
use denote.Struct.Struct.{within}
use denote.Struct.Owning.{shape}
use Rattle.core.proofs.atomic.Steps.{Ptr-Good}
use Rattle.std.proofs.raw_atomic.Walks.{proved_at, leaves}
use Rattle.fastbloom_c.specs.contracts.passed_words.RawWords as C
use Rattle.fastbloom_c.specs.contracts.passed_words.PassedWords as P
use Rattle.fastbloom_c.proofs.passed_words.PassedWords.TheLaws as P_laws
use Rattle.fastbloom_c.proofs.Fields.{words_of, words_known, Data}
use Rattle.fastbloom_c.specs.contracts.passed_words.PassedWords.shared.{ended, clauses}
use Rattle.fastbloom_c.specs.contracts.passed_words.PassedWords.shared.Key.{name as #self}
use Rattle.fastbloom_c.proofs.passed_words.PassedWords.shared.Statement.{statement}
use Rattle.fastbloom_c.proofs.passed_words.PassedWords.shared.Code as code

pub shared_spec : {M : Type 1} → statement M
shared_spec 𝓤 𝓛 𝓜 𝓡 wired =
    let H = 𝓛.H in let 𝓣 = tables 𝓤 H 𝓜 𝓡 𝓡.env in let En = ended in
    let c = clauses 𝓛 𝓜.mem 𝓡.returns in let fn = code.function in
    let hs : Stays En.signature.params En.kept = (stay_dropped (plain (λ _. P.the_row)) yes, tt) in
    proved_at 𝓛 En hs c 𝓜 𝓡 (Goes-dropped 𝓛 0 (plain (λ _. P.the_row)) yes (λ κs x f. refl), tt)
    #self fn (code.unfolded 𝓤 H 𝓜 𝓡 wired) (λ z are.
    let κs = z.0.0 in let v = z.0.3.0 in let p : Ptr = v.at in let n : ℕ = v.len in
    let Post : Val → SProp 𝓤 = (walk_of 𝓛 En hs c).post z in
    let Run : List Val → SProp 𝓤 = λ ws. WpFn 𝓤 H 𝓣.C 𝓣.Λ fn ws Post in
    let w : Val = words_of p n in
    qed 𝓛 ((‵ ftrue ⊛ ‵ (owns (types_at En.signature.params κs) z.0.3 z.0.4)) ∷ raw ((c κs
    z.0.3).requires z.1) ∷ []) ∵ split ! $ move ! (1 ∷ []) $ fsplit ! $ fsplit ! $
    peeks ! Data (Is Data) (shows 𝓛 Data) (p, (n, tt)) z.0.4.0 (λ is.
    let ws = words_known p n z.0.4.0 is in let small : n < 2 ^ 64 = is.1.1.1.0.1 in
    let typed = (subst (Typed P.the_row.mir) ws (((P_laws.the_row_laws).lawful 𝓛).typed v z.0.4.0
    are.0)).0 in drop ! $
    suffices ! (Run (w ∷ [])) (subst (λ (us : List Val). ent 𝓤 (Run (w ∷ [])) (Run us)) (sym (λ i.
    ws i ++ [])) (id⊢ 𝓤 (Run (w ∷ [])))) $
    enter ! 𝓣.C 𝓣.Λ fn (w ∷ []) Post $ alloc_all ! (λ l. pass_all ! refl (typed, tt) $
    sets ! (of_opd ! (get_in ! (fld ! refl (stop !)) (sub ! 0 refl (whole !)))) refl (Ptr-Good p)
    $ sets ! (of_opd ! (get_in ! (fld ! refl (stop !)) (sub ! 1 refl (whole !)))) refl (
      tt,
      record
          { fits = small },
    ) $
    sets ! (agg ! (and_then ! (get ! refl) (and_then ! (get ! refl) (no_more !)))) refl typed $
    nothing ! $ flt_i ! n (2 ^ 64) small $ feq_i ! (List Val) (vint w64 n ∷ []) (vint w64 n ∷ [])
    refl $ fjoin ! $ fjoin ! $ feq_i ! (List Val) (ptr_val p ∷ []) (ptr_val p ∷ []) refl $
    fjoin ! $ feq_i ! (List Val) (w ∷ []) (w ∷ []) refl $ fjoin ! $
    fpack ! (Valss (RawPtr ∷ usize ∷ [])) (within (shape C.the_type) (p, (n, tt)) (w ∷ []))
    (ptr_val p ∷ [], (vint w64 n ∷ [], tt)) $ fjoin ! $
    use0 𝓛 (raw (fact 𝓤 (n ≡ n))) (fact_i 𝓤 (n ≡ n) (emp 𝓤) refl) $
    use0 𝓛 (raw (fact 𝓤 (p ≡ p))) (fact_i 𝓤 (p ≡ p) (emp 𝓤) refl) $ join ! $ nothing ! $
    nothing ! $ fjoin ! $
    returns ! (look_at ! 0 refl) $ free_all ! refl $ keep ! (4 ∷ 0 ∷ 2 ∷ 1 ∷ []) $
    by ! (leaves 𝓛 En hs c z w (record { at = p; len = n }) (tt, tt) (tt, tt)))))
