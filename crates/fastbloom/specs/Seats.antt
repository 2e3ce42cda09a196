-- How a seated filter and its passes stand to the table that has the words.
use Rattle.std.specs.Prelude.{◌≡◌, ◌<◌, ◌≤◌, ◌^◌, ℕ, length}
use Rattle.atomic_table.specs.Seated.{TableId}
use Rattle.atomic_table.specs.declared.shared.Seat.{Seat}
use Rattle.fastbloom.specs.declared.seated.rule.Sets.{Sets}
use Rattle.fastbloom.specs.declared.seated.rule.Size.{Size}
use Rattle.fastbloom.specs.declared.seated.rule.Role.TheVariants.{Pass}

-- a table with the number of words that its rule says, within the limits, and no slots
pub record IsStanding (table : TableId) (size : Size) (hashes : ℕ) : Type 0 where
  pub some_words : 1 ≤ table.words
  pub few_words : table.words < 2 ^ 58
  pub some_hashes : 1 ≤ hashes
  pub words : table.words ≡ size.words
  pub no_slots : table.slots ≡ 0

-- the seat of a pass, whose start has the number of words of the table
pub record IsPassSeat (seat : Seat (Unit {0}) Sets) : Type 0 where
  pub role : seat.me.0.role ≡ Pass
  pub whole : length seat.me.0.start ≡ seat.table_id.words
