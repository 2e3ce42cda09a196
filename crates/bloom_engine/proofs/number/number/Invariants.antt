use Rattle.std.proofs.Common.{◌≡◌, ◌<◌, ◌^◌, true, take}
use Rattle.std.specs.List.{list_all}
use Rattle.std.specs.Char.{is_ascii_digit}
use Rattle.bloom_engine.specs.Lines.{value_of}
use Rattle.bloom_engine.proofs.number.number.Given as goal

-- the value of the digits so far
abbrev pub invariant-digits : goal.invariant-digits
invariant-digits l = record {
  value : l.value ≡ value_of (take l.digit-index l.text);
  all : list_all is_ascii_digit (take l.digit-index l.text) ≡ true;
  small : l.value < 10 ^ l.digit-index;
}
