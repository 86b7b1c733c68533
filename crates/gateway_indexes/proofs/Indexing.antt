-- The table of the index files at worked examples.
use Rattle.std.proofs.Common.{◌≡◌, [], codes, get_or, length, refl}
use Rattle.enc_model.specs.declared.Encoding.TheVariants as e
use Rattle.enc_index.specs.declared.kind.Kind.TheVariants.{Jis0208, Single}
use Rattle.gateway_indexes.specs.IndexFiles.{index_files}

how_many : length index_files ≡ 18
unfolding index_files
how_many = refl

last_file : get_or index_files 17 ([], Jis0208) ≡ (codes "index-windows-1258.txt", Single e.Windows1258)
unfolding index_files
last_file = refl
