use Rattle.std.proofs.Common.{◌≡◌, ◌≤◌, ◌<◌, ◌^◌, ◌∙◌, sym, subst, length}
use Rattle.bloom_steps.proofs.Common.{IsWorld}
use Rattle.bloom_steps.proofs.RunLemmas.Worlds.{first_world}
use Rattle.bloom_steps.proofs.steps.runner.prepare.Goals as goal

pub returns-clause-world : goal.returns-clause-world
returns-clause-world c =
    let start = c.in_ok-start.start.items in
    let now = c.in_ok-now.now.items in
    let same = c.in_ok-start.ensures.items in
    let some = subst (λ l. 1 ≤ length l) (sym same) c.requires.some_words in
    let few = subst (λ l. length l < 2 ^ 58) (sym same) c.requires.few_words in
    let copies : now ≡ start = c.in_ok-now.ensures.items ∙ sym same in
    subst (λ l. IsWorld c.args.num_hashes start now c.parties.machines.items l)
    (sym c.in_ok-records.ensures.items)
    (first_world c.args.num_hashes start now c.parties.machines.items some few c.requires.hashes
    copies c.parties.invariant.none)
