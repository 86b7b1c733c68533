use Rattle.spool_pages.proofs.Resting.{rests_encodes, rests_image}
use Rattle.spool_pages.proofs.rests.resting_images.Goals as goal

pub returns-clause-encodes : goal.returns-clause-encodes
returns-clause-encodes g c v disk rests = rests_encodes rests

pub returns-clause-images : goal.returns-clause-images
returns-clause-images g c v disk image rests is = rests_image image rests is
