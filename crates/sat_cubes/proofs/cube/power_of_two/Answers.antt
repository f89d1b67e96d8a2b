use Rattle.sat_cubes.proofs.Steps.{power_few}
use Rattle.sat_cubes.proofs.cube.power_of_two.Goals as goal

pub returns-clause-few : goal.returns-clause-few
returns-clause-few c = power_few c.args.many c.requires
