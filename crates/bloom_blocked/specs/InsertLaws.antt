-- Laws of inserts of many hashes into a blocked filter: of none, and of two lists, one after the
-- other.
use Rattle.std.proofs.Common.{ℕ, ◌/◌, ◌||◌, List, [], ◌++◌, refl, sym, ◌∙◌, ap}
use Rattle.std.proofs.Math.Bool.{or-false}
use Rattle.bloom_parts.proofs.PublishedLemmas.{many-join}
use Rattle.bloom_parts.specs.Content.{content}
use Rattle.bloom_plain.specs.Filter.{Filter}
use Rattle.bloom_blocked.specs.Lines.{line_positions}
use Rattle.bloom_blocked.specs.Many.{positions_in_lines}
use Rattle.bloom_blocked.specs.Blocked.{num_lines_of, InsertsAllInLines}

module _ {S : Type 0} (old : Filter S) where
  -- no hashes to insert change nothing
  pub inserts_all-none : InsertsAllInLines old [] old
  inserts_all-none = record {
    bits = λ p. sym (or-false (content old.words p));
    shape = record { words = refl; hashes = refl };
    hasher = refl;
  }

  -- two lists of inserts, one after the other, are one list
  pub inserts_all-join : (mid new : Filter S) (xs ys : List ℕ) → InsertsAllInLines old xs mid
      → InsertsAllInLines mid ys new → InsertsAllInLines old (xs ++ ys) new
  inserts_all-join mid new xs ys first second = record {
    bits = many-join (line_positions (num_lines_of old) old.hashes) (content old.words)
        (content mid.words) (content new.words) xs ys (xs ++ ys) refl first.bits
        (λ p. second.bits p
        ∙ ap (λ w. content mid.words p || positions_in_lines (w / 8) mid.hashes ys p)
        (sym first.shape.words)
        ∙ ap (λ k. content mid.words p || positions_in_lines (num_lines_of old) k ys p)
        (sym first.shape.hashes));
    shape = record {
      words = first.shape.words ∙ second.shape.words;
      hashes = first.shape.hashes ∙ second.shape.hashes;
    };
    hasher = second.hasher ∙ first.hasher;
  }
