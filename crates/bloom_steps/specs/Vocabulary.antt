-- The words of steps: calls, steps, how a call stands, records and events. A call and a step are
-- both named `Take`; who needs one of them takes it from its own type.
pub use Rattle.bloom_steps.specs.declared.steps.vocabulary.Step.{Step}
pub use Rattle.bloom_steps.specs.declared.steps.vocabulary.Step.TheVariants.{Load, Or, And, Zero, Other}
pub use Rattle.bloom_steps.specs.declared.steps.vocabulary.Call.{Call}
pub use Rattle.bloom_steps.specs.declared.steps.vocabulary.Call.TheVariants.{Insert, Contains, Clear, Union, Intersect}
pub use Rattle.bloom_steps.specs.declared.steps.vocabulary.End.{End}
pub use Rattle.bloom_steps.specs.declared.steps.vocabulary.End.TheVariants.{Running, Done, Answer}
pub use Rattle.bloom_steps.specs.declared.steps.vocabulary.Record.{Record}
pub use Rattle.bloom_steps.specs.declared.steps.vocabulary.Record.TheVariants.{Began, Did}
pub use Rattle.bloom_steps.specs.declared.steps.vocabulary.Event.{Event}
pub use Rattle.bloom_steps.specs.declared.steps.vocabulary.Event.TheVariants.{Begin, Go}
