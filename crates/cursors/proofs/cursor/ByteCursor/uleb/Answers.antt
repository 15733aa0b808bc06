use Rattle.cursors.proofs.Fields.{uleb_found, uleb_only}
use Rattle.cursors.proofs.cursor.ByteCursor.uleb.Goals as goal

pub returns-clause-found : goal.returns-clause-found
returns-clause-found c = uleb_found c.group.result c.args.self.now c.group.new.self c.group.ensures.bytes c.group.ensures.exact

pub returns-clause-only : goal.returns-clause-only
returns-clause-only c = uleb_only c.group.result c.args.self.now c.group.new.self c.group.ensures.exact
