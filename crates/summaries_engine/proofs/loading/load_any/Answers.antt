use Rattle.std.proofs.Common.{◌≡◌, Err, rules, sym, ◌∙◌}
use Rattle.summaries_engine.proofs.LoadedLemmas.{in-file-form, in-no-file-form, read-first}
use Rattle.summaries_engine.proofs.UnloadedLemmas.{layout-right, text-right}
use Rattle.summaries_engine.proofs.loading.load_any.Goals as goal

-- a file of the form, and text
pub returns-in_ok-filter-clause-form : goal.returns-in_ok-filter-clause-form
returns-in_ok-filter-clause-form g c =
    let read = c.read_full.ensures in
    in-file-form _ _ _ c.in-Ok.count _ _
    (read-first _ _ _ _ _ c.in-Ok.is read.room read.count read.taken read.end)
    c.in_ok-filter.ensures.file c.form_of.ensures

pub returns-in_ok-filter-2-clause-form : goal.returns-in_ok-filter-2-clause-form
returns-in_ok-filter-2-clause-form g c =
    let read = c.read_full.ensures in
    in-no-file-form _ _ _ c.in-Ok.count c.in_ok-filter-2.filter
    (read-first _ _ _ _ _ c.in-Ok.is read.room read.count read.taken read.end)
    (sym c.starts_with.ensures.value ∙ c.if-starts_with.false)

-- a file that isn't read
pub returns-in_err-filter-clause-right : goal.returns-in_err-filter-clause-right
returns-in_err-filter-clause-right g c =
    let read = c.read_full.ensures in
    let is : c.from_residual.result ≡ Err c.in_err-filter.field-0.0 = search rules in
    rw is
    (layout-right _ _ _ c.in-Ok.count _ _ _
    (read-first _ _ _ _ _ c.in-Ok.is read.room read.count read.taken read.end)
    c.layout_of-layout.ensures c.in_err-filter.ensures.right)

-- text that isn't read
pub returns-in_err-filter-2-clause-right : goal.returns-in_err-filter-2-clause-right
returns-in_err-filter-2-clause-right g c =
    let read = c.read_full.ensures in
    let is : c.from_residual-in_err-filter-2.result ≡ Err c.in_err-filter-2.field-0.0 =
    search rules in
    rw is
    (text-right _ _ _ c.in-Ok.count _ _
    (read-first _ _ _ _ _ c.in-Ok.is read.room read.count read.taken read.end)
    (sym c.starts_with.ensures.value ∙ c.if-starts_with.false) c.in_err-filter-2.ensures.failed)
