use Rattle.toy_node.proofs.node.CoreNode.open.Goals as goal

pub returns-in-Ok-clause-within : goal.returns-in-Ok-clause-within
returns-in-Ok-clause-within g c = λ d allows id h disks told history ready holds. c.begin.ensures.within d id h c.requires.suits told history ready

pub returns-in-Err-clause-within : goal.returns-in-Err-clause-within
returns-in-Err-clause-within g c = λ d allows id h disks told history ready holds. c.begin.ensures.within d id h c.requires.suits told history ready
