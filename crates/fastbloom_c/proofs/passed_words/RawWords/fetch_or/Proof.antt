use Rattle.atomic_table.proofs.Names.{ℕ, ◌+◌, ◌*◌, ◌^◌, ◌<◌, List, [], ◌∷◌, refl, ap, arith, lit<, w64, named, Val, vint, vptr, SProp, Fml, ftrue, flft, ‵, raw, ◌⊛◌, mean, at_ret, ◌$◌, ◌∵◌, !, qed, by, move, keep, split, join, fsplit, fjoin, use1, feq_i, flt_i, stop, fld, load, lit, of_opd, bin, no_more, and_then, first, blocks, exec, Calls-last, returns, enter, alloc_all, pass_all, free_all, look_at, get, through, sets, lands_last, is, env, agg, sub, whole, look_in, tables, yes, RattleType, owns, types_at, plain, Ptr, block_ptr, ptr_val, nothing, Stays, stay_dropped, walk_of, Goes-dropped, fact, heard, block_of, count_of, at_block, via, RefOf, usize, u64, shr_vals, shr_Tells, uint_vals, uint_Tells, use0, fact_i, bit_or}
use Rattle.bloom_parts.specs.Made.{FoundByOr, made_by_or}
use Rattle.atomic_table.proofs.Walks.{proved, leaves}
use Rattle.core.proofs.atomic.Steps.{tail}
use Rattle.atomic_table.proofs.Calls.{fm, seq_cst, found, finds, ors}
use Rattle.fastbloom_c.specs.Passed.{vector_of}
use Rattle.fastbloom_c.specs.contracts.passed_words.RawWords as C
use Rattle.fastbloom_c.proofs.Fields.{opens_words, closes_words}
use Rattle.fastbloom_c.proofs.Steps.{steps}
use Rattle.fastbloom_c.specs.contracts.passed_words.RawWords.fetch_or.{ended, clauses}
use Rattle.fastbloom_c.specs.contracts.passed_words.RawWords.fetch_or.Key.{name as #self}
use Rattle.fastbloom_c.proofs.passed_words.RawWords.fetch_or.Statement.{statement}
use Rattle.fastbloom_c.proofs.passed_words.RawWords.fetch_or.Code as code

pub fetch_or_spec : {M : Type 1} → statement M
fetch_or_spec 𝓤 𝓛 𝓜 𝓡 wired =
    let H = 𝓛.H in let 𝓣 = tables 𝓤 H 𝓜 𝓡 𝓡.env in let En = ended in let fn = code.function in
    let Row : RattleType = C.the_row in
    let self = RefOf (0 ∷ []) tt (plain (λ _. Row)) (λ _. tt) in
    let word = plain (λ _. usize) in let set = plain (λ _. u64) in
    let hs : Stays En.signature.params En.kept =
    (stay_dropped self yes, (stay_dropped word yes, (stay_dropped set yes, tt))) in
    let c = clauses 𝓛 𝓜.mem 𝓡.returns in
    proved 𝓛 En hs c 𝓜 𝓡 (
      Goes-dropped 𝓛 1 self yes (λ κs x f. refl),
      (
        Goes-dropped 𝓛 1 word yes (λ κs x f. refl),
        (Goes-dropped 𝓛 1 set yes (λ κs x f. refl), tt),
      ),
    ) #self fn (code.unfolded 𝓤 H 𝓜 𝓡 wired)
    (λ κs. (shr_vals, (uint_vals w64, (uint_vals w64, tt))))
    (λ κs. (shr_Tells (named 0) κs.0 Row, (uint_Tells w64, (uint_Tells w64, tt))))
    (λ κs qs bounds a gh are.
    let b : ℕ = a.0.ref_ptr.0 in let o : ℕ = a.0.ref_ptr.1 in
    let t : Row.Denot = a.0.now in let p : Ptr = t.at in let n : ℕ = t.len in
    let i : ℕ = a.1.0 in let k : ℕ = a.1.1.0 in
    let y : (walk_of 𝓛 En hs c).Ghost =
    ((κs, qs, bounds, a, (vptr b o ∷ [], (vint w64 i ∷ [], (vint w64 k ∷ [], tt)))), gh) in
    let Post : Val → SProp 𝓤 = (walk_of 𝓛 En hs c).post y in
    qed 𝓛 (((‵ (flft κs.0 qs.0) ⊛ ‵ ftrue) ⊛ ‵ (owns (types_at En.signature.params κs) a y.0.4)) ∷
    raw (fact 𝓤 (i < n)) ∷ []) ∵
    move ! (1 ∷ []) $ heard ! (i < n) (λ asked. split ! $ split ! $ move ! (2 ∷ []) $ fsplit ! $
    fsplit ! $ keep ! (1 ∷ 3 ∷ 4 ∷ []) $
    enter ! 𝓣.C 𝓣.Λ fn (vptr b o ∷ vint w64 i ∷ vint w64 k ∷ []) Post $
    alloc_all ! (λ l. pass_all ! refl
    ((tt, tt), ((tt, record { fits = are.1.0.1 }), ((tt, record { fits = are.1.1.0.1 }), tt))) $
    let Ev = env fn.locals l in
    opens_words ! tt t b o (λ at q' vs fields.
    let inside : i < n = asked in let some : 0 < n = omega (arith, asked) in
    let room : n * 8 < 2 ^ 63 = at.1 in let small : i * 8 < 2 ^ 64 = omega arith in
    let e : ℕ = i * 8 + count_of p in first ! $ blocks ! $
    sets ! (is ! (of_opd ! (load ! (through ! refl (fld ! refl (stop !))) (look_in ! 1 (sub ! 0
    refl (whole !))))) (ap ptr_val (at_block p (at.0 some)))) refl (tt, tt) $
    sets ! (bin ! (get ! refl) (lit ! tt) (record { fits = small })) refl
    (tt, record { fits = small }) $ sets ! (bin ! (get ! refl) (get ! refl) tt) refl (tt, tt) $
    closes_words ! tt t b o fields $
    let out : ℕ → Fml = λ _. ftrue in move ! (2 ∷ []) $
    use1 𝓛 (raw (𝓣.C _ (vptr (block_of p) e ∷ vint w64 k ∷ seq_cst ∷ []) (λ u. mean 𝓛 (found out
    u))))
    (via 𝓤 _ (steps 𝓛 p n i (λ m. bit_or m k) inside) (ors 𝓛 𝓜 𝓡
    (code.calls-core::raw_atomic::fetch_or 𝓡.env wired) (block_ptr (block_of p) e) k are.1.1.0.1
    out)) $
    sets ! (agg ! (and_then ! (lit ! tt) (no_more !))) refl (tt, (record { fits = lit< tt }, tt)) $
    Calls-last ! (fm 𝓛 𝓜 𝓡) (found out) (and_then ! (get ! refl) (and_then ! (get ! refl)
    (and_then ! (get ! refl) (no_more !)))) (λ u. finds ! out (λ m fits.
    lands_last ! refl (tt, record { fits = fits }) $ exec ! 𝓣.C 𝓣.Λ Ev (tail fn.body) (at_ret Ev
    Post) $ sets ! (of_opd ! (get ! refl)) refl (tt, record { fits = fits }) $
    move ! (1 ∷ 3 ∷ []) $ join ! $ nothing ! $ nothing ! $ fjoin ! $ nothing ! $ fjoin ! $
    nothing ! $ fjoin ! $ use0 𝓛 (raw (fact 𝓤 (FoundByOr (vector_of p n) i k m))) (fact_i 𝓤
    (FoundByOr (vector_of p n) i k m) (base.Logic.emp 𝓤) (made_by_or (vector_of p n) i k m
    (inside, fits))) $
    flt_i ! m (2 ^ 64) fits $ feq_i ! (List Val) (vint w64 m ∷ []) (vint w64 m ∷ []) refl $
    fjoin ! $
    returns ! (look_at ! 0 refl) $ free_all ! refl $ keep ! (3 ∷ 2 ∷ 0 ∷ 1 ∷ []) $
    by ! (leaves 𝓛 En hs c y (vint w64 m) m (tt, (tt, (tt, tt))) (tt, (tt, (tt, tt))))))))))
