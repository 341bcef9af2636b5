-- The measure of each is the number of bytes left.
use Prim.Native.Nat.{◌-◌}
use lib.ListN.{length}
use Rattle.text_reader.proofs.form.+form_rest.Given as goal

abbrev pub decreases-form : goal.decreases-form
decreases-form l = length l.s.now - l.at

abbrev pub decreases-rest : goal.decreases-rest
decreases-rest l = length l.s.now - l.at
