use Rattle.std.proofs.Common.{sym, arith}
use Rattle.packet_spec.proofs.Classes.{from-0000, from-0401, from-5100, from-5101, from-5201, from-5208, from-5300, from-7D00, from-7F00, from-FF00}
use Rattle.packet.proofs.port.class_of.Goals as goal

pub returns-in-20736 : goal.returns-in-20736
returns-in-20736 c = sym (from-5100 c.args.port (omega arith) (omega arith))

pub returns-in-0-to-1024 : goal.returns-in-0-to-1024
returns-in-0-to-1024 c = sym (from-0000 c.args.port (omega arith))

pub returns-in-1025-to-20735 : goal.returns-in-1025-to-20735
returns-in-1025-to-20735 c = sym (from-0401 c.args.port (omega arith) (omega arith))

pub returns-in-20737-to-20992 : goal.returns-in-20737-to-20992
returns-in-20737-to-20992 c = sym (from-5101 c.args.port (omega arith) (omega arith))

pub returns-in-20993-to-20999 : goal.returns-in-20993-to-20999
returns-in-20993-to-20999 c = sym (from-5201 c.args.port (omega arith) (omega arith))

pub returns-in-21000-to-21247 : goal.returns-in-21000-to-21247
returns-in-21000-to-21247 c = sym (from-5208 c.args.port (omega arith) (omega arith))

pub returns-in-21248-to-31999 : goal.returns-in-21248-to-31999
returns-in-21248-to-31999 c = sym (from-5300 c.args.port (omega arith) (omega arith))

pub returns-in-32000-to-32511 : goal.returns-in-32000-to-32511
returns-in-32000-to-32511 c = sym (from-7D00 c.args.port (omega arith) (omega arith))

pub returns-in-32512-to-65279 : goal.returns-in-32512-to-65279
returns-in-32512-to-65279 c = sym (from-7F00 c.args.port (omega arith) (omega arith))

pub returns-in-65280-to-65535 : goal.returns-in-65280-to-65535
returns-in-65280-to-65535 c = sym (from-FF00 c.args.port (omega arith))
