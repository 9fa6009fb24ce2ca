-- Of a customer's lines at a site: no more pass than its rate allows, so the law `no_more_than_the_rate`.
use Rattle.site_file.proofs.Sums.{all-lines}
use Rattle.site_file.proofs.laws.no_more_than_the_rate.Goals as goal

pub returns : goal.returns
returns c = λ rate paid from to times order within. all-lines rate paid from to times order within
