use Rattle.std.proofs.Common.{arith, refl, ◌∙◌}
use Rattle.bloom_steps.proofs.StepLemmas.MaskSteps.{masks-bound}
use Rattle.bloom_steps.proofs.StepLemmas.Masked.{masked-none, masked-more, masked-all}
use Rattle.bloom_steps.proofs.steps.masks.set_masks.Goals as goal

pub words-init : goal.words-init
words-init g c = record { count = refl; done = λ end. masked-none _ _ _ end }

pub set_mask-all_set-requires : goal.set_mask-all_set-requires
set_mask-all_set-requires g c =
    omega (arith, c.requires.within, c.words.invariant.count, c.words-test.true)

pub words-preserved : goal.words-preserved
words-preserved g c =
    let before = c.words.invariant in
    let did = c.set_mask-all_set.ensures in
    record {
      count = did.words ∙ before.count;
      done =
          masked-more _ _ (λ i within. c.requires.range i 0 within) _ _ _ c.words.i
          c.words.all_set c.set_mask-all_set.result (omega (arith, c.words-test.true)) did.made
          before.done;
    }

pub returns-clause-script : goal.returns-clause-script
returns-clause-script g c =
    masked-all _ _ _ _ c.words.i c.words.all_set (omega (arith, c.words-test.false))
    (masks-bound c.args.masks.now) c.words.invariant.done

pub returns-clause-words : goal.returns-clause-words
returns-clause-words g c = c.words.invariant.count
