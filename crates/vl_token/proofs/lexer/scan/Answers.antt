use Rattle.vl_token.proofs.Reading.{advance_falls, read_on, stop_on}
use Rattle.vl_token.proofs.lexer.scan.Goals as goal

pub loop-tokens-smaller : goal.loop-tokens-smaller
loop-tokens-smaller c = advance_falls _ _ _ _ _ _ c.in-On.ensures

pub loop-tokens-preserved : goal.loop-tokens-preserved
loop-tokens-preserved c = read_on _ _ _ _ _ _ _ _ c.loop-tokens.invariant c.in-On.ensures

pub returns-in-Stop-clause-stopped : goal.returns-in-Stop-clause-stopped
returns-in-Stop-clause-stopped c = stop_on _ _ _ _ _ _ c.loop-tokens.invariant c.in-Stop.ensures
