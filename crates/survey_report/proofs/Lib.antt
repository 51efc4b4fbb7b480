mod SurveyLemmas
