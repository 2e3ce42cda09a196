use Rattle.std.proofs.Common.{◌≡◌, ◌+◌, ◌-◌, ◌≤◌, ap, sym, ◌∙◌, drop, take, arith, length, length-take}
use Rattle.std.proofs.lemmas.List.{drop-take, drop-drop}
use Rattle.lines.proofs.block.Block.skip.Goals as goal

pub returns : goal.returns
returns c =
    let inside = c.self.inside in
    let bytes = inside.bytes.items in
    let at = inside.at in
    let count = c.args.count in
    let left = inside.end - at in
    let held : count ≤ length (take left (drop at bytes)) =
    omega (arith, ap (λ v. length v.bytes) c.self.view_is, c.requires) in
    let few : count ≤ left = omega (arith, held, length-take left (drop at bytes)) in
    let rest : left ≡ count + (inside.end - (at + count)) = omega (arith, few) in
    ap (take (inside.end - (at + count))) (sym (drop-drop count at bytes))
    ∙ sym (drop-take count (inside.end - (at + count)) (drop at bytes))
    ∙ ap (λ n. drop count (take n (drop at bytes))) (sym rest)
    ∙ ap (λ v. drop count v.bytes) c.self.view_is
