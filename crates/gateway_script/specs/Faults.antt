-- The fault of a call as that of its script.
use Rattle.gateway_script.specs.declared.faults.CallFault.{CallFault}
use Rattle.gateway_script.specs.declared.faults.CallFault.TheVariants as calls
use Rattle.gateway_script.specs.declared.faults.ScriptFault.{ScriptFault}
use Rattle.gateway_script.specs.declared.faults.ScriptFault.TheVariants as scripts

abbrev pub script_fault : CallFault → ScriptFault
script_fault (calls.Stop stop) = scripts.Stop stop
script_fault calls.Io = scripts.Io
