use Rattle.watch_log.specs.Feed.{log_of}
use Rattle.watch.specs.Run.{Going}
use Rattle.watch.proofs.pump.pump.Given as goal

abbrev pub invariant-loop : goal.invariant-loop
invariant-loop g l =
    Going l.counter (g.R.Read.remaining l.initial.reader) (g.R.Read.remaining l.reader) (g.W.Write.contents l.initial.writer)
    (g.W.Write.contents l.writer) (log_of l.log)
