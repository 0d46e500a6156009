-- Why a driver stopped, as the code tells it: a refused driver is told apart from the three.
use Rattle.ring_rules.specs.Driver.{Reason, Conclusive, Waiting, Spent}
use Rattle.ring_rules.specs.declared.Reason.{Reason as Told}
use Rattle.ring_rules.specs.declared.Reason.TheVariants as told

abbrev pub reason_of : Told → Reason
reason_of told.Conclusive = Conclusive
reason_of told.Waiting = Waiting
reason_of told.Spent = Spent
