-- Commands of a list as operations on sets of positions. Of a filter that a command names only the
-- content counts.
use Rattle.std.specs.Prelude.{⊤}
use Rattle.bloom_parts.specs.Content.{content}
use Rattle.bloom_parts.specs.Operations as operation
use Rattle.bloom_parts.specs.Operations.{Operation}
use Rattle.bloom_plain.specs.Filter.{Filter, SameShape}
use Rattle.bloom_plain.specs.declared.bloom.command.Command.{Command}
use Rattle.bloom_plain.specs.declared.bloom.command.Command.TheVariants.{Insert, Contains, Clear, Union, Intersect}

-- the operation on sets of positions that a command stands for
abbrev pub operation_of : {S : Type 0} → Command S → Operation
operation_of (Insert hash) = operation.Insert hash
operation_of (Contains hash) = operation.Contains hash
operation_of Clear = operation.Clear
operation_of (Union other) = operation.Union (content other.now.words)
operation_of (Intersect other) = operation.Intersect (content other.now.words)

-- the filter that a command names, if it names one, has the shape of this one
abbrev pub Fits : {S : Type 0} → Filter S → Command S → Type 0
Fits f (Insert hash) = ⊤
Fits f (Contains hash) = ⊤
Fits f Clear = ⊤
Fits f (Union other) = SameShape f other.now
Fits f (Intersect other) = SameShape f other.now
