use Rattle.bloom_files.proofs.FileLemmas.{file-of}
use Rattle.bloom_files.proofs.filter.FilterFile.read_file.Goals as goal

pub returns-clause-file : goal.returns-clause-file
returns-clause-file g c =
    let made = c.from_head.ensures in
    let read = c.in_ok-head.ensures.file in
    record {
      bytes = read.bytes;
      taken = read.taken;
      is_file = file-of _ _ read.bytes _ _ _ c.layout.ensures made.head made.words made.range
          read.is_file;
      end = read.end;
    }
