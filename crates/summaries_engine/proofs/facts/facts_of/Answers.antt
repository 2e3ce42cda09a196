use Rattle.std.proofs.Common.{◌≡◌, ◌++◌, ◌∙◌, IfOk, ap, rules, string_bytes, subst, sym}
use Rattle.summaries_engine.proofs.Common.{IfOk-weaker, Classic, parts_of}
use Rattle.summaries_engine.specs.Facts.{TellsFilter, estimates_text, lines_text}
use Rattle.summaries_engine.proofs.facts.facts_of.Goals as goal

-- the lines are those of an estimate
pub returns-in-Classic : goal.returns-in-Classic
returns-in-Classic c =
    let f = c.in-Classic.filter in
    let form = c.args.form in
    let items = c.estimated_items.result in
    let told : IfOk c.format.result (λ text. string_bytes text
    ≡ lines_text (parts_of c.args.filter.now) form ++ estimates_text f items) = search rules in
    subst (λ g. IfOk c.format.result (λ text. TellsFilter g form (string_bytes text)))
    (sym c.in-Classic.is)
    (IfOk-weaker c.format.result _ (λ text. TellsFilter (Classic f) form (string_bytes text))
    (λ text is. record {
      items = items;
      estimates = c.estimated_items.ensures;
      is = is ∙ ap (λ g. lines_text (parts_of g) form ++ estimates_text f items) c.in-Classic.is;
    }) told)
