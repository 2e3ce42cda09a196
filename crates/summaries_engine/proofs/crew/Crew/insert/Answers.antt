use Rattle.std.proofs.Common.{◌≡◌, ◌<◌, ◌≤◌, ◌*◌, ◌++◌, ◌∙◌, ℕ, ap, arith, drop, length, subst, sym, take}
use Rattle.std.proofs.Math.Seq.{take-append_seam}
use Rattle.std.proofs.lemmas.Grind.{div_ceil_times}
use Rattle.std.specs.Fork.{slice_chunk}
use Rattle.std.specs.Int.{div_ceil}
use Rattle.summaries_engine.proofs.Common.{slice_index_or, DefaultFilter, InsertsAll, InsertParts}
use Rattle.summaries_engine.proofs.CrewLemmas.{parts-each}
use Rattle.summaries_engine.proofs.crew.Crew.insert.Goals as goal

-- each filter has its part
pub returns : goal.returns
returns g c =
    let filters = c.args.self.now.filters in
    let hashes = c.args.hashes.now in
    let new = c.for_each_mut.new.s in
    let size = c.div_ceil-size.result in
    let old-is = c.deref_mut.ensures.value in
    let long : length new ≡ length filters.items = c.for_each_mut.auto.s ∙ ap length old-is in
    let each : (k : ℕ) (d : DefaultFilter) → k < length filters.items
    → InsertsAll (slice_index_or filters.items k d) (slice_chunk hashes size k)
    (slice_index_or new k d) =
    λ k d low.
    let at = (c.for_each_mut.ensures k d (omega (arith, low, ap length old-is))).1 in
    subst (InsertsAll (slice_index_or filters.items k d) (slice_chunk hashes size k)) at.left
    (subst (λ f. InsertsAll f (slice_chunk hashes size k) at.after_call.now)
    (at.argument_is ∙ ap (λ l. slice_index_or l k d) old-is) at.call) in
    let size-is : size ≡ div_ceil (length hashes) filters.len =
    c.div_ceil-size.ensures ∙ ap (div_ceil (length hashes)) c.len-workers.ensures in
    let enough : length hashes ≤ size * length filters.items =
    subst (λ n. length hashes ≤ size * n) (omega (arith, filters.ok))
    (subst (λ s. length hashes ≤ s * filters.len) (sym size-is)
    (div_ceil_times (length hashes) filters.len c.requires.some).0) in
    let is : take filters.len (new ++ drop (length new) filters.items) ≡ new =
    ap (λ n. take n (new ++ drop (length new) filters.items)) (omega (arith, filters.ok, long))
    ∙ take-append_seam new (drop (length new) filters.items) in
    subst (InsertParts (div_ceil (length hashes) filters.len) filters.items hashes) (sym is)
    (subst (λ s. InsertParts s filters.items hashes new) size-is
    (parts-each size filters.items hashes new long enough each))
