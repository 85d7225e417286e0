use Rattle.pictures.specs.Picture.{takes, fits_of}
use Rattle.forms.specs.Forms.{market_partner}
use Rattle.forms.proofs.is_market_partner.Goals as goal

pub returns : goal.returns
unfolding market_partner takes fits_of
returns c = c.fits.ensures
