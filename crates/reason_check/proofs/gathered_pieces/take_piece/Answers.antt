use Rattle.std.proofs.Common.{ap}
use Rattle.reason_check.specs.Gathered.{main_of}
use Rattle.reason_check.proofs.GatheredLemmas.{after_hide, after_initial, after_later, after_main}
use Rattle.reason_check.proofs.gathered_pieces.take_piece.Goals as goal

pub returns-in-Hidden : goal.returns-in-Hidden
returns-in-Hidden c = after_hide c.args.pieces.now c.hide.new.self c.in-Hidden.witness c.in-Hidden.bound c.args.piece c.in-Hidden.is c.hide.result c.hide.ensures

pub returns-in-Later : goal.returns-in-Later
returns-in-Later c = after_later c.args.pieces.now c.take_later.new.self c.in-Later.limit c.args.piece c.in-Later.is c.take_later.result c.take_later.ensures

pub returns-in-Initial : goal.returns-in-Initial
returns-in-Initial c = after_initial c.args.pieces.now c.take_initial.new.self c.in-Initial.witness c.args.piece c.in-Initial.is c.take_initial.result c.take_initial.ensures

pub returns-in-Others : goal.returns-in-Others
returns-in-Others c = after_main c.args.pieces.now c.take_others.new.self _ c.args.piece (ap main_of c.in-Others.is) c.take_others.result c.take_others.ensures

pub returns-in-Apart : goal.returns-in-Apart
returns-in-Apart c = after_main c.args.pieces.now c.take_others-in-Apart.new.self _ c.args.piece (ap main_of c.in-Apart.is) c.take_others-in-Apart.result c.take_others-in-Apart.ensures
