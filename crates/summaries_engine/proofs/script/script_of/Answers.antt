use Rattle.std.proofs.Common.{◌≡◌, ◌++◌, ◌∙◌, IfOk, ap, codes, rules, string_bytes, subst, sym}
use Rattle.summaries_engine.proofs.Common.{IfOk-weaker, Classic, parts_of}
use Rattle.summaries_engine.specs.Scripts.{TellsScript, items_script, parts_script, rate_script}
use Rattle.summaries_engine.proofs.script.script_of.Goals as goal

-- the line is that of an estimate
pub returns-in-Classic : goal.returns-in-Classic
returns-in-Classic c =
    let f = c.in-Classic.filter in
    let form = c.args.form in
    let rest = (items_script c.estimated_items.result ++ rate_script f) ++ codes "}\n" in
    let told : IfOk c.format.result (λ text. string_bytes text ≡ codes "{\"kind\":\"classic\","
    ++ (parts_script (parts_of c.args.filter.now) form ++ rest)) = search rules in
    subst (λ g. IfOk c.format.result (λ text. TellsScript g form (string_bytes text)))
    (sym c.in-Classic.is)
    (IfOk-weaker c.format.result _ (λ text. TellsScript (Classic f) form (string_bytes text))
    (λ text is. record {
      items = c.estimated_items.result;
      estimates = c.estimated_items.ensures;
      is = is ∙ ap (λ g. codes "{\"kind\":\"classic\"," ++ (parts_script (parts_of g) form ++ rest))
          c.in-Classic.is;
    }) told)
