use Rattle.enc_index.specs.Files.{pointers_of, lines_of, pairs_of_file}
use Rattle.enc_laws.proofs.CountingLines.{good_when_ok, read_when_good, pairs_when_ok, code_when_ok, when_bad}
use Rattle.enc_laws.proofs.index_files.files_are_maps.Goals as goal

pub returns : goal.returns
unfolding pairs_of_file
returns c = record {
  good = λ k b. good_when_ok (pointers_of k) (lines_of b);
  read = λ k b. read_when_good (pointers_of k) (lines_of b);
  pairs = λ k b. pairs_when_ok (pointers_of k) (lines_of b);
  code = λ k b. code_when_ok (pointers_of k) (lines_of b);
  first_bad = λ k b. when_bad (pointers_of k) (lines_of b);
}
