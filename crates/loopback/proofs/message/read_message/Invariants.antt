-- What is read before place j, and the message from j on, are the whole message (ReadLaws).
use Rattle.loopback.proofs.ReadLaws.{ReadTo}
use Rattle.loopback.proofs.message.read_message.Given as goal

abbrev pub invariant-loop-j : goal.invariant-loop-j
invariant-loop-j l = ReadTo l.map l.word l.initial.message l.message l.next l.j
