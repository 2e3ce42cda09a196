use Rattle.std.proofs.Common.{◌≡◌, ◌+◌, ◌-◌, ◌≤◌, ap, sym, ◌∙◌, drop, take, arith, length, length-take}
use Rattle.std.proofs.lemmas.List.{drop-take, drop-drop}
use Rattle.lines.proofs.block.Block.take_line.Goals as goal

pub returns-clause-bytes : goal.returns-clause-bytes
returns-clause-bytes c =
    let inside = c.self.inside in
    let bytes = inside.bytes.items in
    let at = inside.at in
    let taken = c.args.count + 1 in
    let left = inside.end - at in
    let held : taken ≤ length (take left (drop at bytes)) =
    omega (arith, ap (λ v. length v.bytes) c.self.view_is, c.requires) in
    let few : taken ≤ left = omega (arith, held, length-take left (drop at bytes)) in
    let rest : left ≡ taken + (inside.end - (at + taken)) = omega (arith, few) in
    let next : at + c.args.count + 1 ≡ at + taken = omega arith in
    ap (λ n. take (inside.end - n) (drop n bytes)) next
    ∙ ap (take (inside.end - (at + taken))) (sym (drop-drop taken at bytes))
    ∙ sym (drop-take taken (inside.end - (at + taken)) (drop at bytes))
    ∙ ap (λ n. drop taken (take n (drop at bytes))) (sym rest)
    ∙ ap (λ v. drop taken v.bytes) c.self.view_is
