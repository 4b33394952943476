-- A statement as it is given to the calls.
use Rattle.relation_laws.specs.Statements.{Statement}
use Rattle.statements.specs.declared.given.Given.{Given}

abbrev pub statement : Given → Statement
statement given = record {
  q = given.modulus;
  rows = given.rows;
  columns = given.columns;
  bound = given.bound;
  matrix = given.matrix.now;
  target = given.target.now;
}
