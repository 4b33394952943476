use Rattle.masks.specs.Held.{mask_in}
use Rattle.console.specs.Told.{state_of}
use Rattle.console.proofs.Room.{numbers_fit, coins_fit}
use Rattle.console.proofs.console.Console.load.Goals as goal

pub copy_three-requires : goal.copy_three-requires
copy_three-requires g c =
    let a = c.args in
    numbers_fit (g.R.Relation.meaning a.self.now.relation) (g.S.Scheme.meaning a.self.now.scheme) (state_of a.self.now a.numbers.now a.coins.now) a.line
    (mask_in a.mask) c.in_ok-count.ensures.0 c.mask_size.result c.mask_size.ensures.size

pub copy_part-requires : goal.copy_part-requires
copy_part-requires g c =
    let a = c.args in
    coins_fit (g.R.Relation.meaning a.self.now.relation) (g.S.Scheme.meaning a.self.now.scheme) (state_of a.self.now a.numbers.now a.coins.now) a.line
    (mask_in a.mask) c.in_ok-count.ensures.0 c.coins_size.result c.coins_size.ensures.size
