-- Words that are written and read block by block.
use Rattle.std.proofs.Common.{◌≡◌, ℕ, ◌+◌, ◌*◌, ◌%◌, ◌≤◌, List, [], ◌++◌, length, length-append, take, take_all, Option, Some, None, refl, sym, ap, subst, arith, ◌∙◌, append_assoc, append-nil}
use Rattle.bloom_files.proofs.Common.{Appends, Consumes, AppendsPart, IsWriting, SipState, Hashed, Takes, whole_words, FileError, Cut, Memory, Input, bytes_of}
use Rattle.std.proofs.KnownBytes.{Appends-trans, Consumes-nil, Consumes-trans}
use Rattle.bloom_files.specs.FileReads.{AsksAsGiven, FailsWithin, GivesSome, ReadsWords, StopsWords}
use Rattle.bloom_files.proofs.NumberLemmas.{bytes_of-append, length-bytes_of, length-whole_words}

-- the first words of a list are a block, and the others follow
pub blocks-cut : (words block others : List ℕ) → words ≡ block ++ others
    → bytes_of words ≡ bytes_of block ++ bytes_of others
blocks-cut words block others cut = ap bytes_of cut ∙ bytes_of-append block others

-- no words have no bytes
no-bytes : (words : List ℕ) → words ≡ [] → bytes_of words ≡ []
unfolding bytes_of
no-bytes words none = ap bytes_of none

-- a text was written, as far as all but the bytes of some words
module _ (text words : List ℕ) (from to : Option (List ℕ))
    (so_far : IsWriting text (bytes_of words) from to) where
  -- a block more was written
  pub written-more : (block others : List ℕ) (end : Option (List ℕ)) → words ≡ block ++ others
      → Appends to end (bytes_of block) → IsWriting text (bytes_of others) from end
  written-more block others end cut more = record {
    written = so_far.written ++ bytes_of block;
    appended = Appends-trans from to end so_far.written (bytes_of block) so_far.appended more;
    cut =
        so_far.cut ∙ ap (λ l. so_far.written ++ l) (blocks-cut words block others cut)
        ∙ sym (append_assoc so_far.written (bytes_of block) (bytes_of others));
  }

  -- a beginning of a block more was written
  pub written-part : (block others : List ℕ) (end : Option (List ℕ)) → words ≡ block ++ others
      → AppendsPart (bytes_of block) to end → AppendsPart text from end
  written-part block others end cut more = record {
    written = so_far.written ++ more.written;
    appended = Appends-trans from to end so_far.written more.written so_far.appended more.appended;
    begins = record {
      rest = more.begins.rest ++ bytes_of others;
      cut =
          so_far.cut ∙ ap (λ l. so_far.written ++ l) (blocks-cut words block others cut)
          ∙ ap (λ l. so_far.written ++ (l ++ bytes_of others)) more.begins.cut
          ∙ ap (λ l. so_far.written ++ l)
          (append_assoc more.written more.begins.rest (bytes_of others))
          ∙ sym (append_assoc so_far.written more.written (more.begins.rest ++ bytes_of others));
    };
  }

  -- where no word is left all was written
  pub written-whole : words ≡ [] → Appends from to text
  written-whole none =
      subst (Appends from to)
      (sym (so_far.cut ∙ ap (λ l. so_far.written ++ l) (no-bytes words none)
      ∙ append-nil so_far.written))
      so_far.appended

-- a block of words was read
module _ (old new : Option (List ℕ)) (before after block : List ℕ) (from to : SipState)
    (whole : length block % 8 ≡ 0) (behind : after ≡ before ++ whole_words block) where
  -- the words came behind the others, and the hasher took in their bytes
  pub reads-block : (count : ℕ) → count ≡ length block → Consumes old new (take count block)
      → bytes_of (whole_words block) ≡ block → Takes from to block
      → ReadsWords old new before after from to
  reads-block count all taken same hashed = record {
    words = whole_words block;
    behind = behind;
    taken =
        subst (Consumes old new)
        (ap (λ n. take n block) all ∙ take_all (length block) block (omega arith) ∙ sym same) taken;
    hashed = subst (Takes from to) (sym same) hashed;
  }

-- how many words there are behind a block
pub counts-block : (before after block : List ℕ) → length block % 8 ≡ 0
    → after ≡ before ++ whole_words block → 8 * length after ≡ 8 * length before + length block
counts-block before after block whole behind =
    omega (
      arith,
      whole,
      ap length behind,
      length-append before (whole_words block),
      length-whole_words block,
    )

-- no word was read yet
pub reads-none : (known : Option (List ℕ)) (words : List ℕ) (h : SipState) → words ≡ []
    → ReadsWords known known [] words h h
reads-none known words h none = record {
  words = [];
  behind = none;
  taken = rw (no-bytes [] refl) (Consumes-nil known);
  hashed = λ k0 k1 before is. rw (no-bytes [] refl, append-nil before) is;
}

-- words were read, and then more
module _ (old mid new : Option (List ℕ)) (words before after : List ℕ) (f g h : SipState)
    (one : ReadsWords old mid [] words f g) (same : before ≡ words)
    (two : ReadsWords mid new before after g h) where
  joined : bytes_of after ≡ bytes_of one.words ++ bytes_of two.words
  joined =
      ap bytes_of (two.behind ∙ ap (λ l. l ++ two.words) (same ∙ one.behind))
      ∙ bytes_of-append one.words two.words

  -- all of them were read
  pub reads-both : ReadsWords old new [] after f h
  reads-both = record {
    words = after;
    behind = refl;
    taken =
        subst (Consumes old new) (sym joined)
        (Consumes-trans old mid new (bytes_of one.words) (bytes_of two.words) one.taken two.taken);
    hashed = λ k0 k1 before is.
        subst (Hashed h k0 k1)
        (append_assoc before (bytes_of one.words) (bytes_of two.words)
        ∙ ap (λ l. before ++ l) (sym joined))
        (two.hashed k0 k1 _ (one.hashed k0 k1 before is));
  }

-- how many bytes the words have that were read
pub length-read : (old new : Option (List ℕ)) (words : List ℕ) (f g : SipState)
    (reads : ReadsWords old new [] words f g) → length (bytes_of reads.words) ≡ 8 * length words
length-read old new words f g reads =
    omega (arith, length-bytes_of reads.words, ap length reads.behind)

-- behind bytes that were taken, fewer are left than for the rest, and so than for all
pub stops-later : (old mid : Option (List ℕ)) (bytes : List ℕ) (part all : ℕ) (error : FileError)
    → Consumes old mid bytes → length bytes + part ≤ all → StopsWords part mid error
    → StopsWords all old error
stops-later None mid bytes part all Cut taken within stops = tt
stops-later (Some xs) None bytes part all Cut taken within stops = absurd taken
stops-later (Some xs) (Some ys) bytes part all Cut taken within stops =
    omega (arith, ap length taken, length-append bytes ys, stops, within)
stops-later old mid bytes part all Memory taken within stops = tt
stops-later old mid bytes part all (Input kind) taken within stops = tt
stops-later old mid bytes part all _ taken within stops = absurd stops

-- behind bytes that were taken, a read failed within the rest, and so within all
pub fails-later : (old mid new : Option (List ℕ)) (bytes : List ℕ) (part all : ℕ)
    (error : FileError) → Consumes old mid bytes → length bytes + part ≤ all
    → FailsWithin part mid new error → FailsWithin all old new error
fails-later old mid new bytes part all error taken within fails = λ kind is.
    let fewer = fails kind is in
    record {
      given = bytes ++ fewer.given;
      taken = Consumes-trans old mid new bytes fewer.given taken fewer.taken;
      few = omega (arith, length-append bytes fewer.given, fewer.few, within);
    }

-- room for twice the words that were read, and a block
pub room-of-read : (old mid : Option (List ℕ)) (words : List ℕ) (f g : SipState) (capacity : ℕ)
    → ReadsWords old mid [] words f g → capacity ≤ 2 * length words + 512
    → AsksAsGiven old mid capacity
room-of-read old mid words f g capacity reads fits = record {
  given = bytes_of reads.words;
  taken = reads.taken;
  room = omega (arith, fits, length-read old mid words f g reads);
}

-- the same room, where the reader gave more
pub room-later : (old mid new : Option (List ℕ)) (capacity same : ℕ) → same ≡ capacity
    → AsksAsGiven old mid capacity → GivesSome mid new → AsksAsGiven old new same
room-later old mid new capacity same is asks gives = record {
  given = asks.given ++ gives.0;
  taken = Consumes-trans old mid new asks.given gives.0 asks.taken gives.1;
  room = omega (arith, is, asks.room, length-append asks.given gives.0);
}
