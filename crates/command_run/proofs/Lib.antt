mod AskedLemmas
mod BatchLemmas
mod FormedLemmas
mod KeptLemmas
mod RunLemmas
