use Rattle.enc_index.proofs.Areas.{jis0208_in, jis0212_in, katakana_in, single_in, set_is}
use Rattle.enc_index.proofs.area.set_of.Goals as goal

pub returns : goal.returns
returns c = λ x v a.
    let area = c.args.area.now in
    let same = set_is x c.in_ok-jis0208.jis0208 c.in_ok-jis0212.jis0212 c.in_ok-katakana.katakana
    c.in_ok-single.single.items
    (c.in_ok-jis0208.ensures.given_back x.jis0208 (jis0208_in x area v a))
    (c.in_ok-jis0212.ensures.given_back x.jis0212 (jis0212_in x area v a))
    (c.in_ok-katakana.ensures.given_back x.katakana (katakana_in x area v a))
    (c.in_ok-single.ensures.given_back x.single v.places (single_in x area v a))
    in
    rw same at c.of_tables.ensures
